use Rattle.std.proofs.Common.{◌≡◌, ◌≤◌, ◌+◌, ◌-◌, ◌++◌, length, drop, vec_len}
use Rattle.std.specs.Prelude.{vec_capacity}
use Rattle.std.specs.List.{sum_by}
use Rattle.repo_pack.specs.declared.rows.Row.{Row}
use Rattle.repo_pack.specs.PackWriting.{placed_from}
use Rattle.repo_pack.proofs.writers.add_placed.Given as goal

-- the blobs placed so far and those of what is left are those of all
abbrev pub invariant-loop-row : goal.invariant-loop-row
invariant-loop-row l = record {
  placed : l.placed.items ++ placed_from l.pack l.offset (drop l.row-index l.rows) ≡ l.initial.placed.items ++ placed_from l.pack 0 l.rows;
  room : vec_len l.placed + (length l.rows - l.row-index) ≤ vec_capacity l.placed;
  offset : l.offset + sum_by (λ (row : Row). row.length) (drop l.row-index l.rows) ≡ sum_by (λ (row : Row). row.length) l.rows;
}
