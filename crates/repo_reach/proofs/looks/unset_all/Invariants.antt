use Rattle.std.proofs.Common.{◌≡◌, ◌≢◌, ◌<◌, ℕ, length, true, slice_get, Some}
use Rattle.repo_reach.proofs.looks.unset_all.Given as goal

abbrev pub invariant-loop-flag : goal.invariant-loop-flag
invariant-loop-flag l = (length l.flag-items ≡ length l.fn.depths.items) × ((depth : ℕ) → depth < l.flag-index → slice_get l.flag-items depth ≢ Some true)
