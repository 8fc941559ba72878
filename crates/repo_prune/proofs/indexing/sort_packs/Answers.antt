use Rattle.std.proofs.Common.{rules, ◌≡◌, ap}
use Rattle.std.specs.Ordering.{is_lt}
use Rattle.std.proofs.lemmas.Fn.{always_returns_same}
use Rattle.repo_name.specs.Naming.{name_cmp}
use Rattle.repo_prune.specs.inner.Indexing.{is_before}
use Rattle.repo_prune.proofs.Cutting.{packs_strict}
use Rattle.repo_prune.proofs.indexing.sort_packs.Goals as goal

pub returns-clause-sorted : goal.returns-clause-sorted
returns-clause-sorted c = c.sort_unstable_by.ensures.sorted is_before packs_strict (always_returns_same _ _ _ (λ a r f called. let is : r ≡ name_cmp a.0.now.pack a.1.0.now.pack = search rules in (ap is_lt is, (search rules))))
