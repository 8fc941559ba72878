-- Which names are picked from a list.
use Rattle.std.specs.Prelude.{◌≡◌, ◌≢◌, ◌↔◌, ℕ, Bool, IsTrue, List, Contains}
use Rattle.repo_name.specs.declared.names.Name.{Name}
use Rattle.repo_prune.specs.Forgetting.{AreThose}
use Rattle.repo_prune.specs.Keeping.{Row}

-- those of a list that stand among some names, or those that don't
abbrev pub ArePicked : List Name → List Name → Bool → List Name → Type 0
ArePicked listed names among picked = AreThose (λ n. IsTrue among ↔ Contains names n) listed picked

-- the names of the rows of other hosts than this one
abbrev pub AreOfOthers : List ℕ → List Row → List Name → Type 0
AreOfOthers host rows names = (n : Name) → Contains names n ↔ ((row : Row) × Contains rows row × (row.0 ≡ n) × (row.1.host ≢ host))
