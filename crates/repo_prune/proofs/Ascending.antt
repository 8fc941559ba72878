-- Lists that ascend.
use Rattle.std.proofs.Common.{◌≡◌, ◌++◌, ◌∷◌, [], ℕ, zero, suc, List, Some, None, take, slice_get, subst, inl, inr, Contains}
use Rattle.std.specs.List.{AllByRecursion}
use Rattle.std.specs.List.Sorted.{IsStrictlySortedBy}
use Rattle.std.specs.declared.cmp.Ordering.{Ordering}
use Rattle.std.specs.declared.cmp.Ordering.TheVariants.{Less}
use Rattle.std.proofs.lemmas.Map.Keys.{sorted_head, sorted_tail}
use Rattle.std.proofs.lemmas.List.Elements.{Contains-append_left, Contains-append_right, Contains-append_cases}
use Rattle.repo_name.proofs.Containing.{none_contained, first_contained, later_contained, contained_or, contains_got}
use Rattle.repo_name.specs.Naming.{name_cmp, Before}
use Rattle.repo_name.specs.declared.names.Name.{Name}

-- what holds of each element holds of all
pub all_each : {X : Type 0} (P : X → Type 0) (xs : List X) → ((x : X) → Contains xs x → P x) → AllByRecursion P xs
all_each P [] h = tt
all_each P (x ∷ xs) h = (h x (first_contained x xs), all_each P xs (λ y is. h y (later_contained x xs y is)))

-- and the other way
pub each_all : {X : Type 0} (P : X → Type 0) (xs : List X) (x : X) → AllByRecursion P xs → Contains xs x → P x
each_all P [] x h is = absurd (none_contained x is)
each_all P (y ∷ ys) x h is = elim (contained_or y ys x is) [ inl same ↦ subst P same h.0 | inr more ↦ each_all P ys x h.1 more ]

pub sorted_none : {K : Type 0} (c : K → K → Ordering) → IsStrictlySortedBy c []
unfolding IsStrictlySortedBy
sorted_none c = tt

pub sorted_one : {K : Type 0} (c : K → K → Ordering) (x : K) → IsStrictlySortedBy c (x ∷ [])
unfolding IsStrictlySortedBy
sorted_one c x = (tt, tt)

-- two lists that ascend, one after another, where all of the first are less than all of the second
pub sorted_append : {K : Type 0} (c : K → K → Ordering) (xs ys : List K) → IsStrictlySortedBy c xs → IsStrictlySortedBy c ys → ((x y : K) → Contains xs x → Contains ys y → c x y ≡ Less) → IsStrictlySortedBy c (xs ++ ys)
unfolding IsStrictlySortedBy
sorted_append c [] ys h g less = g
sorted_append {K} c (x ∷ xs) ys h g less = (
  all_each (λ (y : K). c x y ≡ Less) (xs ++ ys) (λ y is. elim (Contains-append_cases xs ys y is) [ inl left ↦ each_all (λ (z : K). c x z ≡ Less) xs y h.0 left | inr right ↦ less x y (first_contained x xs) right ]),
  sorted_append c xs ys h.1 g (λ a b left right. less a b (later_contained x xs a left) right),
)

-- the first part of a list that ascends
pub sorted_left : {K : Type 0} (c : K → K → Ordering) (xs ys : List K) → IsStrictlySortedBy c (xs ++ ys) → IsStrictlySortedBy c xs
unfolding IsStrictlySortedBy
sorted_left c [] ys h = tt
sorted_left {K} c (x ∷ xs) ys h = (all_each (λ (y : K). c x y ≡ Less) xs (λ y is. each_all (λ (z : K). c x z ≡ Less) (xs ++ ys) y h.0 (Contains-append_left xs ys y is)), sorted_left c xs ys h.1)

-- what stands in it is less than what stands after it
pub less_across : {K : Type 0} (c : K → K → Ordering) (xs ys : List K) → IsStrictlySortedBy c (xs ++ ys) → (x y : K) → Contains xs x → Contains ys y → c x y ≡ Less
unfolding IsStrictlySortedBy
less_across c [] ys h x y left right = absurd (none_contained x left)
less_across {K} c (z ∷ xs) ys h x y left right = elim (contained_or z xs x left) [
  | inl same ↦ subst (λ (w : K). c w y ≡ Less) same (each_all (λ (w : K). c z w ≡ Less) (xs ++ ys) y h.0 (Contains-append_right xs ys y right))
  | inr more ↦ less_across c xs ys h.1 x y more right
]

-- what stands at a place of a sorted list is behind all that stands before it
pub behind_first : (names : List Name) (i : ℕ) (n : Name) → IsStrictlySortedBy name_cmp names → slice_get names i ≡ Some n → (m : Name) → Contains (take i names) m → Before m n
behind_first [] i n sorted at m h = absurd (let none : None ≡ Some n = at in cc)
behind_first (l ∷ names) zero n sorted at m h = absurd (none_contained m h)
behind_first (l ∷ names) (suc i) n sorted at m h = elim (contained_or l (take i names) m h) [
  | inl same ↦ subst (λ z. Before z n) same (each_all (λ (y : Name). name_cmp l y ≡ Less) names n (sorted_head name_cmp l names sorted) (contains_got names i n at))
  | inr more ↦ behind_first names i n (sorted_tail name_cmp l names sorted) at m more
]
