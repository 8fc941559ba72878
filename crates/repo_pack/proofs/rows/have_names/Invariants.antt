use Rattle.std.proofs.Common.{◌≡◌, map, take}
use Rattle.repo_pack.specs.declared.rows.Row.{Row}
use Rattle.repo_pack.specs.PackReading.{rows_in}
use Rattle.repo_pack.proofs.rows.have_names.Given as goal

-- the names so far are these
abbrev pub invariant-loop-place : goal.invariant-loop-place
invariant-loop-place l = map (λ (row : Row). row.name.0) (rows_in l.place l.header) ≡ take l.place l.names
