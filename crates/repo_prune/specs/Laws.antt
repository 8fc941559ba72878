-- What holds of a forget that is alone with its store, by the definitions alone.
use Rattle.std.specs.Prelude.{◌≡◌, ◌≢◌, ◌⊎◌, ◌<◌, ◌^◌, ◌-◌, ◌↔◌, [], ⊤, ℕ, true, false, List, length, map, Option, Some, None}
use Rattle.repo_name.specs.declared.kinds.Kind.{Kind}
use Rattle.repo_name.specs.declared.names.Name.{Name}
use Rattle.repo_wire.specs.declared.messages.Code.{Code}
use Rattle.repo_wire.specs.declared.messages.Request.{Request}
use Rattle.repo_store.specs.Laws.{greatest_count}
use Rattle.repo_store.specs.Pages.{Has, NamesAscend}
use Rattle.repo_store.specs.Stores.{Store}
use Rattle.repo_tree.specs.SnapshotText.{IsSnapshotText}
use Rattle.repo_session.specs.Versions.{upto}
use Rattle.repo_session.specs.Alone.{IsFit, AreVersionsUpto, IsSent, IsSpoken, NoClash}
use Rattle.repo_session.specs.Askers.{Asker}
use Rattle.repo_session.specs.Clients.{IsObedientBy}
use Rattle.repo_session.specs.Soundness.{IsSound}
use Rattle.repo_session.specs.Talks.{Talk, trace_of, TalkRan, MayBeAhead}
use Rattle.repo_session.specs.Listings.{IsSnapshotListing}
use Rattle.repo_session.specs.Traces.{Each, Trace}
use Rattle.repo_session.specs.declared.outcomes.End.{End}
use Rattle.repo_session.specs.declared.outcomes.Outcome.{Outcome}
use Rattle.repo_prune.specs.declared.choices.Choice.{Choice}
use Rattle.repo_prune.specs.Forgetting.{IsChosen, AreChosen, WouldForget, forget_rule, forget_task}
use Rattle.repo_prune.specs.Keeping.{Row}

-- no two of the objects of a store, and of the blobs in its packs, have one name
abbrev pub AreStoredApart : Store → Type 0
AreStoredApart from = NoClash (IsSpoken (λ x. ⊥) from (IsSent [] None))

-- one store has less than another, and less of the snapshots alone
pub record HasFewerSnapshots (from to : Store) : Type 0 where
  pub fewer : (k : Kind) (n : Name) (x : List ℕ) → to.objects k n ≡ Some x → from.objects k n ≡ Some x
  pub others : (k : Kind) (n : Name) (x : List ℕ) → k ≢ Kind.Snapshot → from.objects k n ≡ Some x → to.objects k n ≡ Some x

-- a forget takes snapshots alone from a store, and leaves a sound one sound: after every exchange, whatever the store says, and also where it is one
-- step ahead
abbrev pub ForgetKeepsSound : Type 0
ForgetKeepsSound = (who : Asker) (choice : Choice) (from mid to : Store) (failed failing : ℕ) (talk : Talk) (next : Option Request) (outcome : Option Outcome)
    → IsSound from.objects → AreStoredApart from → TalkRan from failed talk mid failing → MayBeAhead mid next to → IsObedientBy (forget_rule choice) who next outcome (trace_of talk) → HasFewerSnapshots from to × IsSound to.objects

-- a forget alone with a store in which it finds all that it wants, which isn't one that only appends, and whose device doesn't fail, tells at its end what
-- it forgot, or the store had no memory
abbrev pub IsForgottenOrMemory : Option Outcome → Type 0
IsForgottenOrMemory None = ⊥
IsForgottenOrMemory (Some (Outcome.Forgotten names)) = ⊤
IsForgottenOrMemory (Some outcome) = outcome ≡ Outcome.Ended (End.Refused Code.NoMemory)

abbrev pub ForgetEndsWell : Type 0
ForgetEndsWell = (who : Asker) (choice : Choice) (from to : Store) (failed : ℕ) (talk : Talk) (outcome : Option Outcome)
    → IsFit from → AreVersionsUpto (upto (forget_task who).versions) from → from.append_only ≡ false → AreStoredApart from → failed < greatest_count → TalkRan from failed talk to failed → length talk < 2 ^ 64 - 1 → IsObedientBy (forget_rule choice) who None outcome (trace_of talk) → IsForgottenOrMemory outcome

-- a forget alone with a store in which it finds all that it wants, which only appends, and whose device doesn't fail, forgets nothing: it is refused for that
-- mode, or forgot no snapshot, or the store had no memory
abbrev pub ForgetsNothing : Option Outcome → Type 0
ForgetsNothing None = ⊥
ForgetsNothing (Some outcome) = (outcome ≡ Outcome.Ended (End.Refused Code.NoMemory)) ⊎ ((outcome ≡ Outcome.Ended (End.Refused Code.AppendOnly)) ⊎ (outcome ≡ Outcome.Forgotten []))

abbrev pub ForgetOfAppendOnly : Type 0
ForgetOfAppendOnly = (who : Asker) (choice : Choice) (from to : Store) (failed : ℕ) (talk : Talk) (outcome : Option Outcome)
    → IsFit from → AreVersionsUpto (upto (forget_task who).versions) from → from.append_only ≡ true → AreStoredApart from → failed < greatest_count → TalkRan from failed talk to failed → length talk < 2 ^ 64 - 1 → IsObedientBy (forget_rule choice) who None outcome (trace_of talk) → ForgetsNothing outcome

-- rows are those of a store's snapshots: each is what the store has under its name, none is left out, and each is there once, ascending by name
pub record AreSnapshotsOf (store : Store) (rows : List Row) : Type 0 where
  pub each : Each (λ (row : Row). (x : List ℕ) × (store.objects Kind.Snapshot row.0 ≡ Some x) × IsSnapshotText x row.1) rows
  pub all : (n : Name) (x : List ℕ) → store.objects Kind.Snapshot n ≡ Some x → Has (map (λ (row : Row). row.0) rows) n
  pub ascend : NamesAscend None (map (λ (row : Row). row.0) rows)

-- where a policy chooses, the rows are those of the store's snapshots
abbrev pub AreChosenFrom : Choice → Store → List Row → Type 0
AreChosenFrom (Choice.Names names) from rows = ⊤
AreChosenFrom (Choice.Keep policy) from rows = AreSnapshotsOf from rows
AreChosenFrom (Choice.KeepOf host policy) from rows = AreSnapshotsOf from rows

-- what a forget would delete, by the rows of all snapshots, is what it deletes where it finds the same ones
abbrev pub ForeseenIsForgotten : Type 0
ForeseenIsForgotten = (choice : Choice) (rows : List Row) (names : List Name) (es : Trace) → IsSnapshotListing es rows → WouldForget choice rows names → AreChosen choice es names

-- where a forget tells what it forgot, alone with its store, what stays are just the snapshots that aren't chosen: by a policy those of which a row is kept, or is of another host than it is for
abbrev pub ForgetLeavesTheOthers : Type 0
ForgetLeavesTheOthers = (who : Asker) (choice : Choice) (from to : Store) (failed failing : ℕ) (talk : Talk) (next : Option Request) (names : List Name)
    → TalkRan from failed talk to failing → IsObedientBy (forget_rule choice) who next (Some (Outcome.Forgotten names)) (trace_of talk)
    → (rows : List Row) × AreChosenFrom choice from rows × ((n : Name) (x : List ℕ) → (to.objects Kind.Snapshot n ≡ Some x) ↔ ((from.objects Kind.Snapshot n ≡ Some x) × ¬ IsChosen choice rows n))
