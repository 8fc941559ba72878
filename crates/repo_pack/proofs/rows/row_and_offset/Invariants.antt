use Rattle.std.proofs.Common.{◌≡◌, ◌≤◌, ◌*◌}
use Rattle.std.specs.List.{sum_by}
use Rattle.repo_pack.specs.declared.rows.Row.{Row}
use Rattle.repo_pack.specs.PackReading.{rows_in}
use Rattle.repo_pack.proofs.rows.row_and_offset.Given as goal

-- the offset is the sum of the lengths so far
abbrev pub invariant-loop-before : goal.invariant-loop-before
invariant-loop-before l = record {
  offset_is : l.offset ≡ sum_by (λ (row : Row). row.length) (rows_in l.before l.header);
  small : l.offset ≤ 4_294_967_296 * l.before;
}
