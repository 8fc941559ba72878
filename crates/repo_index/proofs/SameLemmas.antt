-- Where the facts of a pack that a look-up gives are those of its items.
use Rattle.std.proofs.Common.{◌≡◌, ◌≤◌, ◌<◌, ◌+◌, ◌∷◌, [], ℕ, zero, suc, List, length, Some, refl, ap, sym, ◌∙◌, subst, inl, inr, Contains, arith}
use Rattle.std.specs.Prelude.{slice_get, ◌↔◌}
use Rattle.std.specs.List.{All, AllByRecursion}
use Rattle.std.specs.List.Sorted.{IsStrictlySortedBy}
use Rattle.std.specs.Ordering.{nat_cmp, ordering_then, ordering_reverse}
use Rattle.std.specs.Cmp.{IsTotalOrder, nat_cmp_is}
use Rattle.std.specs.declared.cmp.Ordering.{Ordering}
use Rattle.std.specs.declared.cmp.Ordering.TheVariants.{Less, Equal, Greater}
use Rattle.std.proofs.lemmas.Cmp.{tied_itself}
use Rattle.std.proofs.lemmas.List.Elements.{All-head, All-tail}
use Rattle.std.proofs.lemmas.Map.Keys.{sorted_head, sorted_tail}
use Rattle.repo_name.specs.Naming.{name_cmp}
use Rattle.repo_name.specs.declared.names.Name.{Name}
use Rattle.repo_pack.specs.PackLayout.{Item, IsItem, offset_of}
use Rattle.repo_pack.specs.PackWriting.{place_of}
use Rattle.repo_pack.proofs.Offsets.{offset_of-cons}
use Rattle.repo_pack.proofs.ViewLemmas.{found_at}
use Rattle.repo_index.specs.IndexText.{fact_of, facts_in}
use Rattle.repo_index.specs.Exactness.{AreFactsAt, IsExactFor}
use Rattle.repo_index.specs.Lookups.{Joins, AreFactsOf}
use Rattle.repo_index.specs.Order.{kind_cmp, place_first, place_first_total, names_total}
use Rattle.repo_index.specs.declared.facts.Fact.{Fact}
use Rattle.repo_index.specs.declared.facts.PackFacts.{PackFacts}
use Rattle.repo_index.proofs.ExactLemmas.{fact_there, item_there}
use Rattle.repo_name.proofs.Containing.{none_contained, first_contained, later_contained, contained_or}

-- ---- strictly sorted lists with the same elements are one

-- what holds of all holds of each
each_one : {X : Type 0} (P : X → Type 0) (xs : List X) (x : X) → AllByRecursion P xs → Contains xs x → P x
each_one P [] x h is = absurd (none_contained x is)
each_one P (y ∷ ys) x h is = elim (contained_or y ys x is) [ inl same ↦ subst P same h.0 | inr more ↦ each_one P ys x h.1 more ]

less_back : (a b : Ordering) → b ≡ ordering_reverse a → a ≡ Less → b ≡ Less → ⊥
less_back Less b e h g = let f : Greater ≡ Less = sym e ∙ g in cc f
less_back Equal b e h g = cc h
less_back Greater b e h g = cc h

not_itself : (o : Ordering) → o ≡ Equal → o ≡ Less → ⊥
not_itself o e h = let f : Equal ≡ Less = sym e ∙ h in cc f

module _ {K : Type 0} (c : K → K → Ordering) (total : IsTotalOrder c) where
  heads_same : (x : K) (xs : List K) (y : K) (ys : List K) → IsStrictlySortedBy c (x ∷ xs) → IsStrictlySortedBy c (y ∷ ys)
      → Contains (y ∷ ys) x → Contains (x ∷ xs) y → x ≡ y
  heads_same x xs y ys h g is back = elim (contained_or y ys x is) [
    | inl same ↦ sym same
    | inr more ↦ elim (contained_or x xs y back) [
      | inl same ↦ same
      | inr other ↦ absurd (less_back (c x y) (c y x) (total.antisymm y x)
          (each_one (λ z. c x z ≡ Less) xs y (sorted_head c x xs h) other) (each_one (λ z. c y z ≡ Less) ys x (sorted_head c y ys g) more))
    ]
  ]

  -- a later element of one list is a later one of the other
  tail_in : (x : K) (xs : List K) (y : K) (ys : List K) → x ≡ y → IsStrictlySortedBy c (x ∷ xs) → ((z : K) → Contains (x ∷ xs) z → Contains (y ∷ ys) z)
      → (z : K) → Contains xs z → Contains ys z
  tail_in x xs y ys same h into z is = elim (contained_or y ys z (into z (later_contained x xs z is))) [
    | inl first ↦
        let less : c x z ≡ Less = each_one (λ w. c x w ≡ Less) xs z (sorted_head c x xs h) is in
        let equal : c x z ≡ Equal = subst (λ (w : K). c x w ≡ Equal) (same ∙ first) (tied_itself total x) in
        absurd (not_itself (c x z) equal less)
    | inr more ↦ more
  ]

  pub sorted_same : (xs ys : List K) → IsStrictlySortedBy c xs → IsStrictlySortedBy c ys → ((z : K) → Contains xs z → Contains ys z)
      → ((z : K) → Contains ys z → Contains xs z) → xs ≡ ys
  sorted_same [] [] h g into back = refl
  sorted_same [] (y ∷ ys) h g into back = absurd (none_contained y (back y (first_contained y ys)))
  sorted_same (x ∷ xs) [] h g into back = absurd (none_contained x (into x (first_contained x xs)))
  sorted_same (x ∷ xs) (y ∷ ys) h g into back =
      let same = heads_same x xs y ys h g (into x (first_contained x xs)) (back y (first_contained y ys)) in
      let rest = sorted_same xs ys (sorted_tail c x xs h) (sorted_tail c y ys g) (tail_in x xs y ys same h into)
      (tail_in y ys x xs (sym same) g back) in
      cc (same, rest)

-- ---- the facts of items, one after another

-- the facts of items, of which the first begins at an offset
abbrev facts_from : Name → ℕ → List Item → List Fact
facts_from pack offset [] = []
facts_from pack offset (first ∷ items) =
    fact_of first.kind first.name (place_of pack offset first) ∷ facts_from pack (offset + length first.bytes) items

-- each stands further on than an offset
abbrev OnFrom : Name → ℕ → Fact → Type 0
OnFrom pack offset fact = (fact.place.pack ≡ pack) × (offset ≤ fact.place.offset)

on_from : (pack : Name) (offset start : ℕ) (items : List Item) → offset ≤ start → AllByRecursion (OnFrom pack offset) (facts_from pack start items)
on_from pack offset start [] h = tt
on_from pack offset start (first ∷ items) h = ((refl, h), on_from pack offset (start + length first.bytes) items (omega (arith, h)))

less_then : (o p : Ordering) → o ≡ Less → ordering_then o p ≡ Less
less_then o p h = ap (λ x. ordering_then x p) h

equal_then : (o p : Ordering) → o ≡ Equal → ordering_then o p ≡ p
equal_then o p h = ap (λ x. ordering_then x p) h

-- a fact stands before one further on in its pack
stands_before : (fact other : Fact) → fact.place.pack ≡ other.place.pack → fact.place.offset < other.place.offset → place_first fact other ≡ Less
stands_before fact other same lt =
    let packs : name_cmp fact.place.pack other.place.pack ≡ Equal = subst (λ (n : Name). name_cmp fact.place.pack n ≡ Equal) same (tied_itself names_total fact.place.pack) in
    let less : nat_cmp fact.place.offset other.place.offset ≡ Less = sym (nat_cmp_is fact.place.offset other.place.offset Less lt) in
    let lengths = nat_cmp fact.place.length other.place.length in
    let behind = ordering_then (nat_cmp fact.place.offset other.place.offset) lengths in
    let place : ordering_then (name_cmp fact.place.pack other.place.pack) behind ≡ Less =
    equal_then (name_cmp fact.place.pack other.place.pack) behind packs ∙ less_then (nat_cmp fact.place.offset other.place.offset) lengths less in
    less_then (ordering_then (name_cmp fact.place.pack other.place.pack) behind) (ordering_then (kind_cmp fact.kind other.kind) (name_cmp fact.name other.name)) place

all_map : {X : Type 0} (P Q : X → Type 0) → ((x : X) → P x → Q x) → (xs : List X) → AllByRecursion P xs → AllByRecursion Q xs
all_map P Q each [] h = tt
all_map P Q each (x ∷ xs) h = (each x h.0, all_map P Q each xs h.1)

facts_sorted : (pack : Name) (offset : ℕ) (items : List Item) → All IsItem items → IsStrictlySortedBy place_first (facts_from pack offset items)
unfolding IsStrictlySortedBy
facts_sorted pack offset [] each = tt
facts_sorted pack offset (first ∷ items) each =
    let is : IsItem first = All-head IsItem first items each in
    let some = is.0.0 in
    let fact = fact_of first.kind first.name (place_of pack offset first) in
    let next = offset + length first.bytes in (
      all_map (OnFrom pack next) (λ g. place_first fact g ≡ Less) (λ g on. stands_before fact g (sym on.0) (let from = on.1 in omega (arith, some, from)))
          (facts_from pack next items) (on_from pack next next items (omega arith)),
      facts_sorted pack next items (All-tail IsItem first items each),
    )

length-facts_from : (pack : Name) (offset : ℕ) (items : List Item) → length (facts_from pack offset items) ≡ length items
length-facts_from pack offset [] = refl
length-facts_from pack offset (first ∷ items) = ap suc (length-facts_from pack (offset + length first.bytes) items)

facts_from_at : (pack : Name) (offset : ℕ) (items : List Item) (k : ℕ) (item : Item) → slice_get items k ≡ Some item
    → slice_get (facts_from pack offset items) k ≡ Some (fact_of item.kind item.name (place_of pack (offset + offset_of items k) item))
facts_from_at pack offset [] k item h = absurd cc
facts_from_at pack offset (first ∷ items) zero item h =
    let e : first ≡ item = cc in
    let zero_more : offset ≡ offset + 0 = omega arith in
    λ i. Some (fact_of (e i).kind (e i).name (place_of pack (zero_more i) (e i)))
facts_from_at pack offset (first ∷ items) (suc k) item h =
    let e : (offset + length first.bytes) + offset_of items k ≡ offset + offset_of (first ∷ items) (suc k) = omega (arith, offset_of-cons first items k) in
    facts_from_at pack (offset + length first.bytes) items k item h ∙ ap (λ o. Some (fact_of item.kind item.name (place_of pack o item))) e

-- lists with the same elements at the same indices
eq_by_get : {X : Type 0} (xs ys : List X) → length xs ≡ length ys → ((k : ℕ) → k < length xs → slice_get xs k ≡ slice_get ys k) → xs ≡ ys
eq_by_get [] [] e h = refl
eq_by_get [] (y ∷ ys) e h = absurd (omega (arith, e))
eq_by_get (x ∷ xs) [] e h = absurd (omega (arith, e))
eq_by_get (x ∷ xs) (y ∷ ys) e h =
    let head : Some x ≡ Some y = h 0 (omega arith) in
    let first : x ≡ y = cc head in
    let shorter : length xs ≡ length ys = omega (arith, e) in
    let rest = eq_by_get xs ys shorter (λ k lt. h (suc k) (omega (arith, lt))) in
    cc (first, rest)

listed_is : (pack : Name) (items : List Item) (listed : List Fact) → AreFactsAt pack items listed → listed ≡ facts_from pack 0 items
listed_is pack items listed are =
    eq_by_get listed (facts_from pack 0 items) (are.count ∙ sym (length-facts_from pack 0 items)) (λ k lt.
    let count = are.count in
    let there = found_at items k (omega (arith, lt, count)) in
    let e : 0 + offset_of items k ≡ offset_of items k = omega arith in
    let whole = facts_from_at pack 0 items k there.0 there.1 ∙ ap (λ o. Some (fact_of there.0.kind there.0.name (place_of pack o there.0))) e in
    are.each k there.0 there.1 ∙ sym whole)

-- ---- exact, and the same

pub exact_same : (packs : List PackFacts) (facts : List Fact) (pack : Name) (items : List Item) (own listed : List Fact)
    → Joins [] (facts_in packs) facts → AreFactsOf facts pack own → AreFactsAt pack items listed → All IsItem items
    → IsExactFor packs pack items ↔ (own ≡ listed)
exact_same packs facts pack items own listed joins are at each =
    let sorted : IsStrictlySortedBy place_first listed = subst (IsStrictlySortedBy place_first) (sym (listed_is pack items listed at)) (facts_sorted pack 0 items each) in
    let held : (f : Fact) → Contains facts f → Contains (facts_in packs) f = λ f h. elim ((joins f).0 h) [ inl none ↦ absurd (none_contained f none) | inr is ↦ is ] in (
      λ exact. sorted_same place_first place_first_total own listed are.ascend sorted
          (λ f h.
          let is = (are.each f).0 h in
          let there = (exact f).0 (held f is.0, is.1) in
          subst (Contains listed) (sym there.3) (fact_there pack items listed there.0 there.1 at there.2))
          (λ f h.
          let is = (exact f).1 (item_there pack items listed f at h) in
          (are.each f).1 ((joins f).1 (inr is.0), is.1)),
      λ same f. (
        λ h. item_there pack items listed f at (subst (λ (fs : List Fact). Contains fs f) same ((are.each f).1 ((joins f).1 (inr h.0), h.1))),
        λ h.
            let there = subst (Contains listed) (sym h.3) (fact_there pack items listed h.0 h.1 at h.2) in
            let is = (are.each f).0 (subst (λ (fs : List Fact). Contains fs f) (sym same) there) in
            (held f is.0, is.1),
      ),
    )
