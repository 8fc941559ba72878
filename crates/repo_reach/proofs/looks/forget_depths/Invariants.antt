use Rattle.std.proofs.Common.{◌≡◌, ◌<◌, ℕ, Bool, slice_get, Some}
use Rattle.repo_reach.specs.Walks.{WasAt, AreSameTrees}
use Rattle.repo_reach.specs.declared.looks.Seen.{Seen}
use Rattle.repo_reach.proofs.looks.forget_depths.Given as goal

abbrev pub invariant-loop-seen : goal.invariant-loop-seen
invariant-loop-seen l = AreSameTrees l.fn.all.items l.seen-items × ((i : ℕ) (seen : Seen) (follows : Bool) (depth : ℕ) → i < l.seen-index → slice_get l.seen-items i ≡ Some seen → ¬ WasAt seen follows depth)
