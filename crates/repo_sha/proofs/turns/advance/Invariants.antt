use Rattle.std.proofs.Common.{◌≡◌, ℕ, ◌<◌, ◌≤◌, length}
use Rattle.repo_sha.specs.inner.Batches.{GoesOn, at}
use Rattle.repo_sha.proofs.turns.advance.Given as goal

abbrev pub invariant-lanes : goal.invariant-lanes
invariant-lanes l = record {
  count : length l.lanes ≡ 8;
  gone_on : (j : ℕ) → j < l.lane → GoesOn l.steps (at l.fn.lanes j) (at l.lanes j);
  same : (j : ℕ) → l.lane ≤ j → at l.lanes j ≡ at l.fn.lanes j;
}
