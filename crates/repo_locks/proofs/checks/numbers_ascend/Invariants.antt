use Rattle.std.proofs.Common.{drop}
use Rattle.repo_locks.specs.Lawful.{Ascends}
use Rattle.repo_locks.proofs.checks.numbers_ascend.Given as goal

abbrev pub invariant-loop-number : goal.invariant-loop-number
invariant-loop-number l = record {
  on : Ascends 0 l.next l.numbers → Ascends l.low l.next (drop l.number-index l.numbers);
  back : Ascends l.low l.next (drop l.number-index l.numbers) → Ascends 0 l.next l.numbers;
}
