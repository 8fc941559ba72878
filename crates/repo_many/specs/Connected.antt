-- That the guests of a server are its connections.
use Rattle.std.specs.Prelude.{◌≡◌, ◌≢◌, ◌⊎◌, ◌++◌, ℕ, List, Some, true, slice_get}
use Rattle.repo_store.specs.Channels.{Passage}
use Rattle.repo_store.specs.Stores.{Store}
use Rattle.repo_hall.specs.Halls.{Stands}
use Rattle.repo_hall.specs.Happenings.{AreInTurn, Log, no_stay, stay}
use Rattle.repo_hall.specs.declared.guests.Guest.{Guest}
use Rattle.repo_many.specs.Wires.{IsWired, passages}
use Rattle.repo_many.specs.declared.connections.Connections.{Connections}
use Rattle.repo_many.specs.declared.places.Place.{Place}
use Rattle.repo_many.specs.declared.sockets.Socket.{Socket}

-- Nothing happened to the guest of a number; or it is a connection, over which just that went which the guest brought and was given, in that order, and
-- then what was lost.
abbrev pub IsConnection : {C : Type 0} → (C → List ℕ → C → Type 0) → (C → List ℕ → C → Type 0) → ℕ → Log → Type 0
IsConnection {C} Hears Says n log = (stay n log ≡ no_stay) ⊎ ((came : C) × (left : C) × (lost : List Passage) × IsWired Hears Says came (lost ++ passages n log) left)

-- After this happened to the guests of these places: over the connection at a place went just what its guest brought and was given; nothing happened to the
-- guest at a free place; and each guest, also each that left, is a connection.
pub record AreConnected {C : Type 0} (Hears Says : C → List ℕ → C → Type 0) (places : List (Place C)) (guests : List Guest) (log : Log) : Type 0 where
  pub taken : (j : ℕ) (s : Socket C) (g : Guest) → slice_get places j ≡ Some (Place.Taken s) → slice_get guests j ≡ Some g → (came : C) × IsWired Hears Says came (passages g.number log) s.stream
  pub free : (j : ℕ) (g : Guest) → slice_get places j ≡ Some Place.Free → slice_get guests j ≡ Some g → stay g.number log ≡ no_stay
  pub each : (n : ℕ) → IsConnection Hears Says n log

-- from wherever connections stand after happenings in turn, more happens, all of it in turn, and they stand after that
abbrev pub ConnectionsLead : {C : Type 0} → (C → List ℕ → C → Type 0) → (C → List ℕ → C → Type 0) → Connections C → Store → ℕ → Connections C → Store → ℕ → Type 0
ConnectionsLead Hears Says old mid k new to l = (from : Store) (failed : ℕ) (log : Log) → Stands from failed old.hall.guests.items old.hall.entered log mid k → AreInTurn log
    → AreConnected Hears Says old.places.items old.hall.guests.items log
    → (more : Log) × Stands from failed new.hall.guests.items new.hall.entered (more ++ log) to l × AreInTurn (more ++ log)
    × AreConnected Hears Says new.places.items new.hall.guests.items (more ++ log)

-- at all other places is what was there
abbrev pub LeavesPlaces : {C : Type 0} → List (Place C) → ℕ → List (Place C) → Type 0
LeavesPlaces old place new = (j : ℕ) → j ≢ place → slice_get new j ≡ slice_get old j

-- a place has what it had, and its connection stands where it stood
abbrev pub IsStill : {C : Type 0} → List (Place C) → List (Place C) → Type 0
IsStill {C} old new = ((j : ℕ) (t : Socket C) → slice_get new j ≡ Some (Place.Taken t) → (s : Socket C) × (slice_get old j ≡ Some (Place.Taken s)) × (t.stream ≡ s.stream))
    × ((j : ℕ) → slice_get new j ≡ Some Place.Free → slice_get old j ≡ Some Place.Free)

-- a connection came to a place that was free, or nothing changed
abbrev pub IsSeated : {C : Type 0} → List (Place C) → ℕ → List (Place C) → Type 0
IsSeated {C} old place new = LeavesPlaces old place new
    × ((slice_get new place ≡ slice_get old place) ⊎ ((slice_get old place ≡ Some Place.Free) × ((s : Socket C) × (slice_get new place ≡ Some (Place.Taken s)))))

-- a place whose connection, if there is one, is ready
abbrev pub woken : {C : Type 0} → Place C → Place C
woken Place.Free = Place.Free
woken (Place.Taken s) = Place.Taken (record { stream = s.stream; since = s.since; ready = true; at_end = s.at_end; named = s.named })
woken Place.LeftOut = Place.LeftOut
