use Rattle.std.proofs.Common.{◌≡◌, take}
use Rattle.repo_locks.proofs.making.set_of_numbers.Given as goal

abbrev pub invariant-loop-number : goal.invariant-loop-number
invariant-loop-number l = l.set.keys ≡ take l.number-index l.numbers
