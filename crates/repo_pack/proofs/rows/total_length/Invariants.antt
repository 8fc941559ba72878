use Rattle.std.proofs.Common.{◌≡◌, ◌≤◌, ◌*◌}
use Rattle.std.specs.List.{All, sum_by}
use Rattle.repo_pack.specs.declared.rows.Row.{Row}
use Rattle.repo_pack.specs.PackLayout.{IsBlobLength}
use Rattle.repo_pack.specs.PackReading.{rows_in}
use Rattle.repo_pack.proofs.rows.total_length.Given as goal

-- the lengths so far are blobs', and the total is their sum
abbrev pub invariant-loop-place : goal.invariant-loop-place
invariant-loop-place l = record {
  each : All (λ (row : Row). IsBlobLength row.length) (rows_in l.place l.header);
  total_is : l.total ≡ sum_by (λ (row : Row). row.length) (rows_in l.place l.header);
  small : l.total ≤ 4_294_967_296 * l.place;
}
