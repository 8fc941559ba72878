use Rattle.std.proofs.Common.{◌≡◌, ◌<◌, ◌↔◌, ℕ, Some, map, slice_get, Contains}
use Rattle.std.specs.Borrow.{Bor}
use Rattle.repo_name.specs.declared.names.Name.{Name}
use Rattle.repo_prune.specs.Keeping.{Row}
use Rattle.repo_prune.specs.inner.Walks.{IsKeptAt, RowsBefore}
use Rattle.repo_prune.proofs.keeping.keep.Given as goal

abbrev pub invariant-loop-row : goal.invariant-loop-row
invariant-loop-row l = let rows = map (λ (r : Bor Row). r.now) l.row-items in
    RowsBefore rows l.row-index l.before
    × ((n : Name) → Contains l.names.items n ↔ ((place : ℕ) × (row : Row) × (place < l.row-index) × (slice_get rows place ≡ Some row) × (row.0 ≡ n) × IsKeptAt l.policy rows row))
