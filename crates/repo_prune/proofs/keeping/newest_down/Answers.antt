use Rattle.std.proofs.Common.{rules, ◌≡◌, ap}
use Rattle.std.specs.Ordering.{is_lt}
use Rattle.std.proofs.lemmas.Fn.{always_returns_same}
use Rattle.std.specs.Borrow.{Bor}
use Rattle.repo_prune.specs.Keeping.{Row}
use Rattle.repo_prune.specs.inner.Walks.{is_before, row_cmp}
use Rattle.repo_prune.proofs.Going.{newest_strict}
use Rattle.repo_prune.proofs.keeping.newest_down.Goals as goal

pub returns-clause-sorted : goal.returns-clause-sorted
returns-clause-sorted c = c.sort_unstable_by.ensures.sorted (λ (a b : Bor Row). is_before b.now a.now) newest_strict (always_returns_same _ _ _ (λ a r f called. let is : r ≡ row_cmp a.1.0.now.now a.0.now.now = search rules in (ap is_lt is, (search rules))))
