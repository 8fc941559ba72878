use Rattle.std.proofs.Common.{◌≡◌, false}
use Rattle.repo_prog.proofs.listeners.take.Given as goal

abbrev pub invariant-loop-tried : goal.invariant-loop-tried
invariant-loop-tried g l = record {
  silent : l.refused ≡ false → l.faults ≡ l.fn.faults;
}
