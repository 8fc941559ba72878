-- What goes over the connections of a server, and that it is what happens to their guests.
use Rattle.std.specs.Prelude.{◌≡◌, ◌≢◌, ◌⊎◌, ◌++◌, ◌∷◌, [], ℕ, List, Option, Some, cond, eqb, slice_get}
use Rattle.std.specs.Io.KnownBytes.{Appends, Consumes}
use Rattle.repo_store.specs.Channels.{Passage, heard, said, Passes}
use Rattle.repo_store.specs.Stores.{Store}
use Rattle.repo_store.specs.declared.serving.ServeError.{ServeError}
use Rattle.repo_hall.specs.Halls.{Stands}
use Rattle.repo_hall.specs.Happenings.{Answered, AreInTurn, Brought, Given, Log, stay}
use Rattle.repo_hall.specs.declared.guests.Guest.{Guest}
use Rattle.repo_hall.specs.declared.halls.Hall.{Hall}
use Rattle.repo_many.specs.declared.progress.Progress.{Progress}
use Rattle.repo_many.specs.declared.wires.Link.{Link}

-- what the guest of a number brought and was given, piece by piece, the newest first
abbrev pub passages : ℕ → Log → List Passage
passages k [] = []
passages k (Brought n piece ∷ log) = cond (eqb n k) (heard piece ∷ passages k log) (passages k log)
passages k (Answered n request reply ∷ log) = passages k log
passages k (Given n piece ∷ log) = cond (eqb n k) (said piece ∷ passages k log) (passages k log)

-- passages without those of no bytes
abbrev pub bare : List Passage → List Passage
bare [] = []
bare (heard [] ∷ ps) = bare ps
bare (heard (b ∷ bytes) ∷ ps) = heard (b ∷ bytes) ∷ bare ps
bare (said [] ∷ ps) = bare ps
bare (said (b ∷ bytes) ∷ ps) = said (b ∷ bytes) ∷ bare ps

-- a connection came from one state to another by just these passages; passages of no bytes don't count
abbrev pub IsWired : {C : Type 0} → (C → List ℕ → C → Type 0) → (C → List ℕ → C → Type 0) → C → List Passage → C → Type 0
IsWired Hears Says came qs now = (ps : List Passage) × Passes Hears Says came ps now × (bare ps ≡ bare qs)

-- nothing happened to the guest of a number but what had happened before
abbrev pub IsSpared : ℕ → Log → Log → Type 0
IsSpared n log next = (stay n next ≡ stay n log) × (passages n next ≡ passages n log)

-- From wherever a hall stands after happenings in turn, more happens in turn, to the guest at this place alone. What goes over its connection meanwhile is
-- what that guest brings and is given, in that order, and then what is lost; wherever the connection came from.
abbrev pub HallServes : {C : Type 0} → (C → List ℕ → C → Type 0) → (C → List ℕ → C → Type 0) → Hall → Store → ℕ → ℕ → C → List Passage → Hall → Store → ℕ → C → Type 0
HallServes {C} Hears Says old mid k place s lost new to l t = (from : Store) (failed : ℕ) (log : Log) → Stands from failed old.guests.items old.entered log mid k → AreInTurn log
    → (g : Guest) → slice_get old.guests.items place ≡ Some g
    → (more : Log) × Stands from failed new.guests.items new.entered (more ++ log) to l × AreInTurn (more ++ log)
    × ((n : ℕ) → n ≢ g.number → IsSpared n log (more ++ log))
    × ((came : C) → IsWired Hears Says came (passages g.number log) s → IsWired Hears Says came (lost ++ passages g.number (more ++ log)) t)

-- the same, whatever the store, which stays as it is
abbrev pub HallServesStill : {C : Type 0} → (C → List ℕ → C → Type 0) → (C → List ℕ → C → Type 0) → Hall → ℕ → C → List Passage → Hall → C → Type 0
HallServesStill Hears Says old place s lost new t = (mid : Store) (k : ℕ) → HallServes Hears Says old mid k place s lost new mid k t

-- From wherever a hall stands after happenings in turn, more happens in turn, to the guest at this place alone, over no connection.
abbrev pub HallAnswers : Hall → Store → ℕ → ℕ → Hall → Store → ℕ → Type 0
HallAnswers old mid k place new to l = (from : Store) (failed : ℕ) (log : Log) → Stands from failed old.guests.items old.entered log mid k → AreInTurn log
    → (g : Guest) → slice_get old.guests.items place ≡ Some g
    → (more : Log) × Stands from failed new.guests.items new.entered (more ++ log) to l × AreInTurn (more ++ log)
    × ((n : ℕ) → n ≢ g.number → IsSpared n log (more ++ log)) × (passages g.number (more ++ log) ≡ passages g.number log)

-- what is lost of what was heard by a turn that came to this: nothing, unless there was no memory for it
abbrev pub IsLost : Progress → List Passage → Type 0
IsLost progress lost = (lost ≡ []) ⊎ (progress ≡ Progress.Failed ServeError.Memory)

-- what hearing some bytes over a socket leads to, as far as is known what it has left
abbrev pub Hears : {T : Type 0} → (T → Option (List ℕ)) → Link T → List ℕ → Link T → Type 0
Hears remaining a bytes b = Consumes (remaining a.stream) (remaining b.stream) bytes

-- what saying some bytes over a socket leads to, as far as is known what it took
abbrev pub Says : {T : Type 0} → (T → Option (List ℕ)) → Link T → List ℕ → Link T → Type 0
Says contents a bytes b = Appends (contents a.stream) (contents b.stream) bytes
