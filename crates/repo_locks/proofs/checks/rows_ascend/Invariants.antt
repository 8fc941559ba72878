use Rattle.std.proofs.Common.{drop}
use Rattle.repo_locks.specs.TokenMachine.{tokens_of}
use Rattle.repo_locks.specs.Lawful.{Ascends}
use Rattle.repo_locks.proofs.checks.rows_ascend.Given as goal

abbrev pub invariant-loop-row : goal.invariant-loop-row
invariant-loop-row l = record {
  on : Ascends 0 l.next (tokens_of l.rows) → Ascends l.low l.next (tokens_of (drop l.row-index l.rows));
  back : Ascends l.low l.next (tokens_of (drop l.row-index l.rows)) → Ascends 0 l.next (tokens_of l.rows);
}
