-- What calls, kills and power cuts, one after another, come to.
use Rattle.std.specs.Prelude.{◌≡◌, ◌∷◌, [], Bool, false, List, Result, Ok}
use Rattle.repo_disk.specs.Disks.{State, IsCut}
use Rattle.repo_store.specs.Laws.{Writes}
use Rattle.repo_store.specs.Stores.{Store, PutsObject, RemovesObject, SavesTokens, SavesConfig}
use Rattle.repo_store.specs.declared.shelves.ShelfError.{ShelfError}
use Rattle.repo_folder.specs.Spelling.{spelled}
use Rattle.repo_folder.specs.declared.folders.Standing.{Standing}
use Rattle.repo_folder.specs.declared.turns.Turn.{Turn}

-- a store's folder at some moment: its disk, what is known of it, and whether a change failed
pub record Moment : Type 0 where
  pub disk : State
  pub standing : Standing
  pub has_failed : Bool

-- the moment with these
abbrev pub at : State → Standing → Bool → Moment
at disk standing has_failed = record { disk = disk; standing = standing; has_failed = has_failed }

-- the store in it
abbrev pub store_at : Moment → Store
store_at m = spelled m.disk.fate

-- A turn, and what it told: a call that writes makes its change, or on a fault makes it or not, or without memory doesn't. A kill leaves the disk as it is,
-- and a cut as a cut leaves it, with the same store; nothing is known of it then.
abbrev pub Turns : Moment → Turn → Result (Unit {0}) ShelfError → Moment → Type 0
Turns old (Turn.Put kind name bytes) told new = Writes (PutsObject kind name bytes) (store_at old) told (store_at new)
Turns old (Turn.Remove kind name) told new = Writes (RemovesObject kind name) (store_at old) told (store_at new)
Turns old (Turn.SaveLedger tokens) told new = Writes (SavesTokens tokens) (store_at old) told (store_at new)
Turns old (Turn.SaveConfig bytes) told new = Writes (SavesConfig bytes) (store_at old) told (store_at new)
Turns old Turn.Kill told new = (told ≡ Ok tt) × (new ≡ at old.disk Standing.Unsettled false)
Turns old Turn.Cut told new = (told ≡ Ok tt) × IsCut old.disk new.disk × (store_at new ≡ store_at old) × (new ≡ at new.disk Standing.Unsettled false)

-- turns one after another, with what each told
abbrev pub Lives : Moment → List Turn → List (Result (Unit {0}) ShelfError) → Moment → Type 0
Lives old [] [] new = new ≡ old
Lives old [] (r ∷ rs) new = ⊥
Lives old (turn ∷ turns) [] new = ⊥
Lives old (turn ∷ turns) (r ∷ rs) new = (mid : Moment) × Turns old turn r mid × Lives mid turns rs new
