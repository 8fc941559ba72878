-- Those of a list of which something holds.
use Rattle.std.proofs.Common.{◌≡◌, ◌∷◌, ◌↔◌, [], Bool, true, false, List, cond, refl, sym, subst, inl, inr, Contains}
use Rattle.std.specs.List.{filter}
use Rattle.std.specs.List.Sorted.{IsStrictlySortedBy}
use Rattle.std.specs.declared.cmp.Ordering.{Ordering}
use Rattle.std.specs.declared.cmp.Ordering.TheVariants.{Less}
use Rattle.repo_name.proofs.Containing.{none_contained, first_contained, later_contained, contained_or}
use Rattle.repo_prune.specs.Forgetting.{AreThose}
use Rattle.repo_prune.proofs.Ascending.{all_each, each_all}

module _ {A : Type 0} (P : A → Type 0) where
  -- each of them is one of the list, of which it holds
  pub those_are : (xs those : List A) (x : A) → AreThose P xs those → Contains those x → Contains xs x × P x
  those_are [] those x h has = absurd (none_contained x (subst (λ ys. Contains ys x) h has))
  those_are (y ∷ xs) those x (inl (is, rest, more, same)) has = elim (contained_or y rest x (subst (λ ys. Contains ys x) same has)) [
    | inl here ↦ (subst (λ z. Contains (z ∷ xs) x) (sym here) (first_contained x xs), subst P here is)
    | inr later ↦ let r = those_are xs rest x more later in (later_contained y xs x r.0, r.1)
  ]
  those_are (y ∷ xs) those x (inr (none, more)) has = let r = those_are xs those x more has in (later_contained y xs x r.0, r.1)

  -- and each of the list of which it holds is one of them
  pub are_those : (xs those : List A) (x : A) → AreThose P xs those → Contains xs x → P x → Contains those x
  are_those [] those x h has so = absurd (none_contained x has)
  are_those (y ∷ xs) those x (inl (is, rest, more, same)) has so = subst (λ ys. Contains ys x) (sym same) (elim (contained_or y xs x has) [
    | inl here ↦ subst (λ z. Contains (z ∷ rest) x) (sym here) (first_contained x rest)
    | inr later ↦ later_contained y rest x (are_those xs rest x more later so)
  ])
  are_those (y ∷ xs) those x (inr (none, more)) has so = elim (contained_or y xs x has) [
    | inl here ↦ absurd (none (subst P (sym here) so))
    | inr later ↦ are_those xs those x more later so
  ]

  -- of a list that ascends they ascend
  pub those_ascend : (c : A → A → Ordering) (xs those : List A) → AreThose P xs those → IsStrictlySortedBy c xs → IsStrictlySortedBy c those
  unfolding IsStrictlySortedBy
  those_ascend c [] those h sorted = subst (IsStrictlySortedBy c) (sym h) sorted
  those_ascend c (x ∷ xs) those (inl (is, rest, more, same)) sorted =
      let least = all_each (λ (y : A). c x y ≡ Less) rest (λ y has. each_all (λ (z : A). c x z ≡ Less) xs y sorted.0 (those_are xs rest y more has).0) in
      subst (IsStrictlySortedBy c) (sym same) (least, those_ascend c xs rest more sorted.1)
  those_ascend c (x ∷ xs) those (inr (none, more)) sorted = those_ascend c xs those more sorted.1

  -- what passes a test that tells just whether it holds
  pub those_passed : (p : A → Bool) → ((x : A) → (p x ≡ true) ↔ P x) → (xs : List A) → AreThose P xs (filter p xs)
  those_passed p is [] = refl
  those_passed p is (x ∷ xs) = passed_or (p x) (filter p xs) refl (those_passed p is xs)
    where
      passed_or : (b : Bool) (rest : List A) → p x ≡ b → AreThose P xs rest → AreThose P (x ∷ xs) (cond b (x ∷ rest) rest)
      passed_or true rest q more = inl ((is x).0 q, rest, more, refl)
      passed_or false rest q more = inr (λ so. (let t = (is x).1 so in absurd (cc)), more)

module _ {A : Type 0} (P Q : A → Type 0) where
  -- where just then something else holds, they are those of which that does
  pub those_alike : ((x : A) → P x ↔ Q x) → (xs those : List A) → AreThose P xs those → AreThose Q xs those
  those_alike both [] those h = h
  those_alike both (x ∷ xs) those (inl (is, rest, more, same)) = inl ((both x).0 is, rest, those_alike both xs rest more, same)
  those_alike both (x ∷ xs) those (inr (none, more)) = inr (λ so. none ((both x).1 so), those_alike both xs those more)

  -- those of those of which something else holds, too
  pub those_of_those : (xs some those : List A) → AreThose P xs some → AreThose Q some those → AreThose (λ x. P x × Q x) xs those
  those_of_those [] some those h g = subst (λ ys. AreThose Q ys those) h g
  those_of_those (x ∷ xs) some those (inl (is, rest, more, same)) g = elim (subst (λ ys. AreThose Q ys those) same g) [
    | inl (also, last, less, are) ↦ inl ((is, also), last, those_of_those xs rest last more less, are)
    | inr (none, less) ↦ inr (λ so. none so.1, those_of_those xs rest those more less)
  ]
  those_of_those (x ∷ xs) some those (inr (none, more)) g = inr (λ so. none so.0, those_of_those xs some those more g)
