use Rattle.std.proofs.Common.{◌≢◌, ◌<◌, ℕ, true, slice_get, Some}
use Rattle.repo_reach.proofs.used.is_one_set.Given as goal

abbrev pub invariant-loop-at : goal.invariant-loop-at
invariant-loop-at l = (d : ℕ) → d < l.at → slice_get l.flags d ≢ Some true
