-- The names that are reached, by the visits.
use Rattle.std.proofs.Common.{◌≡◌, ◌∷◌, [], List, Option, Some, None, ◌↔◌, Contains}
use Rattle.std.specs.List.{AllByRecursion}
use Rattle.std.specs.List.Sorted.{IsStrictlySortedBy}
use Rattle.std.specs.declared.cmp.Ordering.TheVariants.{Less}
use Rattle.repo_name.specs.Naming.{name_cmp, Before}
use Rattle.repo_name.specs.declared.kinds.BlobKind.TheVariants.{Content, Tree}
use Rattle.repo_name.specs.declared.names.Name.{Name}
use Rattle.repo_index.specs.Order.{names_total}
use Rattle.repo_store.specs.Pages.{NamesAscend}
use Rattle.repo_session.specs.Traces.{Trace}
use Rattle.repo_check.specs.Answers.{IsReachedBlob}
use Rattle.repo_check.specs.Surveys.{IsSurveyed, RoundsView, answers_in}
use Rattle.repo_check.specs.Verdicts.{AreReached, ReachedView}
use Rattle.repo_check.specs.Walks.{WalkView}
use Rattle.repo_check.proofs.Reached.{content_is_reached, visits_are_reached}

-- ---- names that ascend

after_first : (n : Name) (names : List Name) → AllByRecursion (λ m. name_cmp n m ≡ Less) names → IsStrictlySortedBy name_cmp names → NamesAscend (Some n) names
unfolding IsStrictlySortedBy
after_first n [] all h = tt
after_first n (m ∷ names) all h = (all.0, after_first m names h.0 h.1)

pub sorted_ascends : (names : List Name) → IsStrictlySortedBy name_cmp names → NamesAscend None names
unfolding IsStrictlySortedBy
sorted_ascends [] h = tt
sorted_ascends (n ∷ names) h = (tt, after_first n names h.0 h.1)

all_after : (n m : Name) (names : List Name) → Before n m → AllByRecursion (λ y. name_cmp m y ≡ Less) names → AllByRecursion (λ y. name_cmp n y ≡ Less) names
all_after n m [] before h = tt
all_after n m (x ∷ names) before h = (names_total.trans n m x before h.0, all_after n m names before h.1)

-- and the other way
pub ascends_sorted : (after : Option Name) (names : List Name) → NamesAscend after names → IsStrictlySortedBy name_cmp names
unfolding IsStrictlySortedBy
ascends_sorted after [] h = tt
ascends_sorted after (n ∷ []) h = (tt, tt)
ascends_sorted after (n ∷ m ∷ names) h = let rest = ascends_sorted (Some n) (m ∷ names) h.1 in ((h.1.0, all_after n m names h.1.0 rest.0), rest)

-- ---- what is reached

module _ (rounds : RoundsView) (walk : WalkView) (es : Trace) (s : IsSurveyed rounds walk es) (reached : ReachedView) (are : AreReached walk reached) where
  pub trees_reached : (n : Name) → Contains reached.trees n ↔ IsReachedBlob (answers_in s) Tree n
  trees_reached n =
      let visits = (visits_are_reached rounds walk es s n).0 in (
        λ c. (let g = (are.trees.each n).0 c in visits.1 (g.0, g.1, g.2, tt)),
        λ r. (let v = visits.0 r in (are.trees.each n).1 (v.0, v.1, v.2)),
      )

  pub content_reached : (n : Name) → Contains reached.content n ↔ IsReachedBlob (answers_in s) Content n
  content_reached n =
      let holds = content_is_reached rounds walk es s n in
      (λ c. holds.1 ((are.content.each n).0 c), λ r. (are.content.each n).1 (holds.0 r))
