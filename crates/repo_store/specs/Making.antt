use Rattle.std.specs.Prelude.{◌≡◌, ◌≢◌, ◌⊎◌, ◌≤◌, ◌<◌, ℕ, List, None, Result, Ok, Err, IsErrOf}
use Rattle.repo_store.specs.declared.making.InitError.{InitError}
use Rattle.repo_store.specs.declared.shelves.ShelfError.{ShelfError}
use Rattle.repo_store.specs.Laws.{greatest_count}
use Rattle.repo_store.specs.Stores.{Store, SavesConfig}

-- a config's text is kept where none was; on a fault it may be kept; else nothing changes
abbrev pub Makes : List ℕ → Store → Result (Unit {0}) InitError → Store → Type 0
Makes text old (Ok done) new = (old.config ≡ None) × SavesConfig text old new
Makes text old (Err InitError.Exists) new = (old.config ≢ None) × (new ≡ old)
Makes text old (Err InitError.Fault) new = (new ≡ old) ⊎ ((old.config ≡ None) × SavesConfig text old new)
Makes text old (Err InitError.Memory) new = new ≡ old

-- the count of failures doesn't fall, and a fault is told only where it rose, or stands at its greatest
abbrev pub MakingHasCause : ℕ → Result (Unit {0}) InitError → ℕ → Type 0
MakingHasCause old result new = (old ≤ new) × (IsErrOf result InitError.Fault → (old < new) ⊎ (new ≡ greatest_count))

-- the error of a device's call that failed
abbrev pub making_error : ShelfError → InitError
making_error ShelfError.Fault = InitError.Fault
making_error ShelfError.Memory = InitError.Memory
