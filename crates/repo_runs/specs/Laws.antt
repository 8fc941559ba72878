-- What holds of all runs.
use Rattle.std.specs.Prelude.{◌≤◌, ◌≡◌, ◌<◌, ◌-◌, ◌^◌, [], ⊤, ℕ, List, length, Option, Some, None}
use Rattle.repo_name.specs.declared.kinds.Kind.{Kind}
use Rattle.repo_name.specs.declared.names.Name.{Name}
use Rattle.repo_wire.specs.declared.messages.Ask.{Ask}
use Rattle.repo_wire.specs.declared.messages.Say.{Say}
use Rattle.repo_locks.specs.TokenMachine.{last_number}
use Rattle.repo_store.specs.declared.faults.Fail.{Fail}
use Rattle.repo_store.specs.AppendOnly.{OnlyAppends}
use Rattle.repo_store.specs.Failing.{Failing}
use Rattle.repo_store.specs.StoreMachine.{Step}
use Rattle.repo_store.specs.Stores.{Store}
use Rattle.repo_store.specs.Laws.{greatest_count}
use Rattle.repo_tree.specs.declared.configs.Config.{Config}
use Rattle.repo_tree.specs.ConfigText.{IsConfigText}
use Rattle.repo_session.specs.Versions.{upto}
use Rattle.repo_session.specs.Alone.{IsFit}
use Rattle.repo_session.specs.Talks.{Talk, TalkRan, trace_of}
use Rattle.repo_session.specs.declared.outcomes.Outcome.{Outcome}
use Rattle.repo_restore.specs.Laws.{IsCompleteOrMemory, IsRestore}
use Rattle.repo_restore.specs.Restoring.{Wish, restore_task}
use Rattle.repo_world.specs.World.{World, client, beginning}
use Rattle.repo_world.specs.Events.{Happens, Run}
use Rattle.repo_world.specs.Laws.{IsEmpty, AllBehave}
use Rattle.repo_world.specs.Safe.{HasNoClash, StaysStored}
use Rattle.repo_world.specs.declared.events.Event.{Event}
use Rattle.repo_world.specs.declared.events.Applied.{Applied}

-- a step in which a call of the device fails is one of the store machine
abbrev pub FailingIsAStep : Type 0
FailingIsAStep = (fail : Fail) (old : Store) (ask : Ask) (say : Say) (new : Store) → Failing ⊤ fail old ask say new → Step old ask say new

-- in a world whose store only appends no event takes an object away, or changes one, and the store goes on so
abbrev pub EventsOnlyAppend : Type 0
EventsOnlyAppend = (w v : World) (events : List Event) → Run w events v → OnlyAppends w.store v.store

-- what a client reported it goes on to report
abbrev pub OutcomesStay : World → World → Type 0
OutcomesStay w v = (k : ℕ) (o : Outcome) → (client w k).outcome ≡ Some o → (client v k).outcome ≡ Some o

-- each client of a run behaves, and its outcome stays
abbrev pub EachEventKeepsReports : Type 0
EachEventKeepsReports = (w v : World) (e : Event) (applied : Applied) → Happens ⊤ w e applied v → AllBehave w → AllBehave v × OutcomesStay w v

-- a snapshot that a client once reported as stored stays stored, at every later time
abbrev pub EachReportHolds : Type 0
EachReportHolds = (store : Store) → IsEmpty store → (events more : List Event) (w last : World) → Run (beginning store) events w → Run w more last → HasNoClash last
    → (k : ℕ) (s : Name) (blobs bytes : ℕ) → (client w k).outcome ≡ Some (Outcome.Stored s blobs bytes) → StaysStored last k s

-- what a client that is alone with a store wants of it besides what each run gives: its config reads, no lock is live, and there is a next number
pub record IsAtRest (store : Store) : Type 0 where
  pub text : List ℕ
  pub config : Config
  pub configured : store.config ≡ Some text
  pub reads : IsConfigText text config
  pub free : store.tokens.live ≡ []
  pub numbers : store.tokens.next < last_number

-- from an empty store, after any events, whatever comes after them: a store at rest is one in which a client alone finds all that it wants; where there is
-- no clash in the last world
abbrev pub EveryStoreIsFit : Type 0
EveryStoreIsFit = (store : Store) → IsEmpty store → (events more : List Event) (w last : World) → Run (beginning store) events w → Run w more last → HasNoClash last
    → IsAtRest w.store → IsFit w.store

-- and a restore of a snapshot that is there, of a client that knows the config's version, alone with that store, whose device doesn't fail, is complete at its
-- end, or the store had no memory
abbrev pub EverySnapshotIsRestored : Type 0
EverySnapshotIsRestored = (store : Store) → IsEmpty store → (events more : List Event) (w last : World) → Run (beginning store) events w → Run w more last → HasNoClash last
    → (at : IsAtRest w.store) → (wish : Wish) → at.config.version ≤ upto (restore_task wish).versions → (text : List ℕ) → w.store.objects Kind.Snapshot wish.snapshot ≡ Some text
    → (to : Store) (failed : ℕ) (talk : Talk) (outcome : Option Outcome) → failed < greatest_count → TalkRan w.store failed talk to failed → length talk < 2 ^ 64 - 1
    → IsRestore wish None outcome (trace_of talk) → IsCompleteOrMemory outcome
