-- What a world in code is made of, and the world for which it stands.
use Rattle.std.specs.Prelude.{◌≡◌, ◌<◌, ◌⊎◌, ◌∷◌, [], ℕ, List, Option, Some, None}
use Rattle.repo_wire.specs.declared.messages.Reply.{Reply}
use Rattle.repo_wire.specs.declared.messages.Request.{Request}
use Rattle.repo_store.specs.Failing.{HasFailed}
use Rattle.repo_store.specs.Kept.{Agrees}
use Rattle.repo_store.specs.Laws.{greatest_count}
use Rattle.repo_store.specs.Stores.{Store, SavesConfig}
use Rattle.repo_store.specs.declared.faults.Armed.{Armed}
use Rattle.repo_store.specs.declared.faults.FaultShelf.{FaultShelf}
use Rattle.repo_store.specs.declared.kept.Kept.{Kept}
use Rattle.repo_world.specs.Events.{AnswersNobody, Happens, MayAnybodySend, Run}
use Rattle.repo_world.specs.Flows.{Flow, world_of}
use Rattle.repo_world.specs.Laws.{IsEmpty}
use Rattle.repo_world.specs.Safe.{HandedIsOne, HasNoClash, IsSafe}
use Rattle.repo_world.specs.World.{World, beginning}
use Rattle.repo_world.specs.declared.events.Applied.{Applied}
use Rattle.repo_world.specs.declared.events.Event.{Event}

-- the store's device; and all clients with all messages
pub record Stage (S : Type 0) : Type 0 where
  pub device : S
  pub flow : Flow

-- the world for which it stands
abbrev pub seen : {S : Type 0} → (S → Store) → Stage S → World
seen store stage = world_of (store stage.device) stage.flow

-- an event leads from a stage to another, and comes to this; the device may fail by itself where its count of failures says that it did
abbrev pub Leads : {S : Type 0} → (S → Store) → (S → ℕ) → Stage S → Event → Applied → Stage S → Type 0
Leads store failed old event applied new = Happens (HasFailed (failed old.device) (failed new.device)) (seen store old) event applied (seen store new)

-- somebody who is no client sends a request, and is told this reply; or none, where nobody may send it
abbrev pub Tells : {S : Type 0} → (S → Store) → (S → ℕ) → Stage S → Request → Option Reply → Stage S → Type 0
Tells store failed old request (Some reply) new = (a : AnswersNobody (HasFailed (failed old.device) (failed new.device)) (seen store old) request (seen store new)) × (reply ≡ a.reply)
Tells store failed old request None new = (¬ MayAnybodySend request) × (new ≡ old)

-- events lead from a stage to another, one after another
abbrev pub LeadsOn : {S : Type 0} → (S → Store) → (S → ℕ) → Stage S → List Event → Stage S → Type 0
LeadsOn store failed old [] new = new ≡ old
LeadsOn {S} store failed old (e ∷ es) new = (mid : Stage S) × ((applied : Applied) × Leads store failed old e applied mid) × LeadsOn store failed mid es new

-- they lead so far, and the world is as they left it
abbrev pub StopsAfter : {S : Type 0} → (S → Store) → (S → ℕ) → Stage S → List Event → Stage S → Type 0
StopsAfter {S} store failed old es new = (mid : Stage S) × LeadsOn store failed old es mid × (seen store new ≡ seen store mid)

-- a run from a store without objects leads to the world
pub record IsReachable (w : World) : Type 0 where
  pub store : Store
  pub empty : IsEmpty store
  pub events : List Event
  pub run : Run (beginning store) events w

-- what a world keeps its device in
abbrev pub Shelf : Type 0 → Type 0
Shelf S = Kept (FaultShelf S)

-- the device is honest, and what is remembered of it agrees with it; nothing is armed; and a run leads here
pub record WorldStands {S : Type 0} (Honest : S → Type 0) (store : S → Store) (shelf : Shelf S) (flow : Flow) : Type 0 where
  pub honest : Honest shelf.inner.inner
  pub agrees : Agrees shelf.known (store shelf.inner.inner)
  pub disarmed : shelf.inner.armed ≡ Armed.Nothing
  pub reached : IsReachable (world_of (store shelf.inner.inner) flow)

-- without a clash the world is safe, and what was handed to a snapshot's backup is one list
abbrev pub IsSafely : World → Type 0
IsSafely w = HasNoClash w → IsSafe w × HandedIsOne w

-- some device of this sort failed: its count of failures is above this one's, or stands at its greatest. (That it is this device later isn't said.)
abbrev pub HasFailedSince : {S : Type 0} → (S → ℕ) → S → Type 0
HasFailedSince {S} failed old = (device : S) × ((failed old < failed device) ⊎ (failed device ≡ greatest_count))

-- nothing was sent, and the store is the old one with a config, where none was
abbrev pub BeginsWithConfig : List ℕ → Store → World → Type 0
BeginsWithConfig text old w = (old.config ≡ None) × SavesConfig text old w.store × (w ≡ beginning w.store)
