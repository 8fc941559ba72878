-- How connections end.
use Rattle.std.specs.Prelude.{◌≡◌, ◌⊎◌, [], ⊤, ℕ, true, List, slice_get, Some}
use Rattle.repo_hall.specs.Guests.{IsNewGuest, out_of}
use Rattle.repo_hall.specs.declared.guests.Guest.{Guest}
use Rattle.repo_many.specs.declared.places.Place.{Place}
use Rattle.repo_many.specs.declared.progress.Progress.{Progress}

-- a turn by which its connection ends
abbrev pub IsOver : Progress → Type 0
IsOver Progress.AtEnd = ⊤
IsOver Progress.TooSlow = ⊤
IsOver (Progress.Failed error) = ⊤
IsOver _ = ⊥

-- All is done for a guest: nothing is to be given to it yet; and it is answered no more, or all that it brought was answered.
abbrev pub IsDone : Guest → Type 0
IsDone g = (out_of g ≡ []) × ((g.ended ≡ true) ⊎ (g.reader.unread ≡ []))

-- the guest at a place, if there is one, is of this sort
abbrev pub GuestIs : (Guest → Type 0) → List Guest → ℕ → Type 0
GuestIs Of guests place = (g : Guest) → slice_get guests place ≡ Some g → Of g

-- a place is free only where it was before, or where its guest is new
abbrev pub IsFreed : {T : Type 0} → ℕ → List (Place T) → List (Place T) → List Guest → Type 0
IsFreed place old new guests = slice_get new place ≡ Some Place.Free → (slice_get old place ≡ Some Place.Free) ⊎ ((number : ℕ) × GuestIs (λ g. IsNewGuest g number) guests place)
