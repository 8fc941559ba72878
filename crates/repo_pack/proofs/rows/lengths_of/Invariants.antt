use Rattle.std.proofs.Common.{◌≡◌, map}
use Rattle.repo_pack.specs.declared.rows.Row.{Row}
use Rattle.repo_pack.specs.PackReading.{rows_in}
use Rattle.repo_pack.proofs.rows.lengths_of.Given as goal

-- the lengths so far
abbrev pub invariant-loop-place : goal.invariant-loop-place
invariant-loop-place l = l.lengths.items ≡ map (λ (row : Row). row.length) (rows_in l.place l.header)
