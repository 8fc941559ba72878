use Rattle.std.proofs.Common.{rules, ◌≡◌, ap, subst, sym}
use Rattle.std.specs.List.{dedup}
use Rattle.std.specs.List.Sorted.{IsSorted, IsStrictlySortedBy}
use Rattle.std.specs.Ordering.{eq_by_cmp, is_lt}
use Rattle.std.proofs.lemmas.Fn.{always_returns_same}
use Rattle.std.proofs.lemmas.List.Sorted.{ranks_by}
use Rattle.repo_index.specs.Order.{place_first, place_first_total}
use Rattle.repo_index.specs.Lookups.{HasSame}
use Rattle.repo_index.specs.declared.facts.Fact.{Fact}
use Rattle.repo_index.proofs.PackLemmas.{once_is, once_same, once_sorted}
use Rattle.repo_index.proofs.placed.Placed.of.Goals as goal

sorted : (c : goal.After-dedup) → IsSorted place_first c.sort_unstable_by.new.self.items
sorted c = c.sort_unstable_by.ensures.sorted (λ a b. is_lt (place_first a b)) (ranks_by place_first_total (λ (f : Fact). f)) (always_returns_same _ _ _ (λ a r f called. let is : r ≡ place_first a.0.now a.1.0.now = search rules in (ap is_lt is, (search rules))))

each_once : (c : goal.After-dedup) → c.dedup.new.self.items ≡ dedup (eq_by_cmp place_first) c.sort_unstable_by.new.self.items
each_once c = once_is _ c.sort_unstable_by.new.self.items c.dedup.new.self.items c.dedup.ensures.filtered (λ a b. (λ h. search rules, λ h. search rules))

same : (c : goal.After-dedup) → HasSame c.args.facts.items c.dedup.new.self.items
same c = subst (HasSame c.args.facts.items) (sym (each_once c)) (once_same c.args.facts.items c.sort_unstable_by.new.self.items c.sort_unstable_by.ensures.permutation)

pub invariant_of-result : goal.invariant_of-result
invariant_of-result c = (
  λ fact h. c.requires fact ((same c fact).0 h),
  subst (IsStrictlySortedBy place_first) (sym (each_once c)) (once_sorted c.sort_unstable_by.new.self.items (sorted c)),
)

pub returns : goal.returns
returns c = same c
