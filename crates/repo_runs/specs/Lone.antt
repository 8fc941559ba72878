-- A client that is alone with its store, as a part of a run: so a world may come to whatever jobs come to that are alone with their store, one after another.
use Rattle.std.specs.Prelude.{◌≡◌, ◌<◌, ◌^◌, ◌++◌, ◌∷◌, [], ℕ, false, List, length, Option, Some, None}
use Rattle.repo_name.specs.Rows.{IsHost}
use Rattle.repo_store.specs.Stores.{Store}
use Rattle.repo_session.specs.declared.versions.Versions.{Versions}
use Rattle.repo_session.specs.Askers.{asker}
use Rattle.repo_session.specs.Feeds.{Fed}
use Rattle.repo_session.specs.Talks.{Turn, Talk, trace_of, TalkRan}
use Rattle.repo_session.specs.Traces.{Trace, fed_in}
use Rattle.repo_session.specs.declared.outcomes.Outcome.{Outcome}
use Rattle.repo_feeding.specs.FedLaws.{IsFedClient}
use Rattle.repo_feeding.specs.Unfed.{unfed}
use Rattle.repo_runs.specs.Fed.{IsFedWell}
use Rattle.repo_world.specs.Clients.{Accepts, Client}
use Rattle.repo_world.specs.Duties.{IsDutiful}
use Rattle.repo_world.specs.Events.{Run}
use Rattle.repo_world.specs.World.{World, instance_of}
use Rattle.repo_world.specs.declared.jobs.Job.{Job}
use Rattle.repo_world.specs.declared.events.Event.{Event}
use Rattle.repo_feeding.specs.FedRules.{IsAsTold}
use Rattle.repo_backup.specs.Items.{place_of}

-- a client that is at its end
abbrev pub ended : ℕ → Job → List ℕ → ℕ → Trace → Option Outcome → Client
ended k job host time es outcome = record { job = job; who = asker (instance_of k) host time Versions.Both; trace = es; next = None; outcome = outcome; crashed = false }

-- some events lead from a world to one with this store, where this client has joined, and the others are as they were
pub record JoinsWorld (w : World) (store : Store) (c : Client) : Type 0 where
  pub events : List Event
  pub last : World
  pub run : Run w events last
  pub store_is : last.store ≡ store
  pub clients_are : last.clients ≡ w.clients ++ c ∷ []

-- A client that talked alone with the world's store, one turn or more, to its end, as it owes it, is a part of a run; so is one that was fed some items between
-- its exchanges, where it might be.
abbrev pub LoneTalkIsARun : Type 0
LoneTalkIsARun = (w : World) (job : Job) (host : List ℕ) (time : ℕ) (turn : Turn) (talk : Talk) (to : Store) (failed failing : ℕ) (outcome : Outcome) (fs : Trace)
    → Accepts job → (time < 2 ^ 64) × IsHost host → TalkRan w.store failed (turn ∷ talk) to failing → unfed fs ≡ trace_of (turn ∷ talk) → IsFedWell job fs
    → IsDutiful (ended (length w.clients) job host time fs (Some outcome)) → JoinsWorld w to (ended (length w.clients) job host time fs (Some outcome))

-- A backup that feeds itself, and talked alone with the world's store, one turn or more, to its end, is a part of a run, as a backup that is fed: with some items
-- between its exchanges.
abbrev pub FedBackupIsARun : Type 0
FedBackupIsARun = (w : World) (whole : Option (List Fed)) (host : List ℕ) (time : ℕ) (turn : Turn) (talk : Talk) (to : Store) (failed failing : ℕ) (outcome : Outcome)
    → (time < 2 ^ 64) × IsHost host → TalkRan w.store failed (turn ∷ talk) to failing
    → IsFedClient (asker (instance_of (length w.clients)) host time Versions.Both) whole None (Some outcome) (trace_of (turn ∷ talk))
    → (fs : Trace) × (unfed fs ≡ trace_of (turn ∷ talk)) × IsAsTold whole (place_of (fed_in fs)) × JoinsWorld w to (ended (length w.clients) Job.Pieces host time fs (Some outcome))
