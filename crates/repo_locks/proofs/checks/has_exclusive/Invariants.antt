use Rattle.std.proofs.Common.{◌≡◌, drop}
use Rattle.repo_locks.specs.TokenMachine.{has_exclusive}
use Rattle.repo_locks.proofs.checks.has_exclusive.Given as goal

abbrev pub invariant-loop-row : goal.invariant-loop-row
invariant-loop-row l = has_exclusive l.rows ≡ has_exclusive (drop l.row-index l.rows)
