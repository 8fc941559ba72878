-- A pack's facts, and the packs of facts.
use Rattle.std.proofs.Common.{◌≡◌, ◌<◌, ◌≤◌, ◌+◌, ◌-◌, ◌⊎◌, ◌++◌, ◌∷◌, [], ℕ, zero, suc, List, length, take, drop, get_or, Bool, true, false, Some, refl, ap, sym, ◌∙◌, subst, inl, inr, Contains, arith}
use Rattle.std.specs.Prelude.{slice_get}
use Rattle.std.specs.Cmp.{eq_by_cmp_equiv}
use Rattle.std.specs.Bool.{Decides}
use Rattle.std.specs.List.{AllByRecursion, AllWithin, dedup}
use Rattle.std.specs.List.Retain.{IsFiltered, DiffersFromLast}
use Rattle.std.specs.List.Sorted.{IsStrictlySortedBy, IsSorted, IsPermutation, IsPartitionedBy, IsPartitionPoint}
use Rattle.std.proofs.lemmas.Bool.{cases_lt}
use Rattle.std.proofs.lemmas.Bool.Decides.{same_from_decides}
use Rattle.std.proofs.lemmas.Cmp.{tied_itself}
use Rattle.std.proofs.lemmas.List.{take_more, drop_more, take-append-drop, length-take-le, length-drop, get_or-take, get_or-drop}
use Rattle.std.proofs.lemmas.List.Elements.{Contains-append_left, Contains-append_right, Contains-append_cases, Contains-get_or, Contains-push, Contains-push_cases}
use Rattle.std.proofs.lemmas.List.Filters.{dedup_is}
use Rattle.std.proofs.lemmas.List.Kept.{IsStrictlySortedBy-dedup, Contains-dedup, Contains-from_dedup}
use Rattle.std.proofs.lemmas.List.Sorted.{Contains-permutation, IsPermutation-sym}
use Rattle.std.proofs.lemmas.Map.Keys.{sorted_head, sorted_tail}
use Rattle.std.specs.Ordering.{nat_cmp, ordering_then, ordering_reverse, eq_by_cmp, is_eq, is_gt, is_lt, is_le}
use Rattle.std.specs.declared.cmp.Ordering.{Ordering}
use Rattle.std.specs.declared.cmp.Ordering.TheVariants.{Less, Equal, Greater}
use Rattle.repo_name.proofs.Containing.{none_contained, first_contained, later_contained, contained_or}
use Rattle.repo_name.specs.Naming.{name_cmp}
use Rattle.repo_name.specs.declared.names.Name.{Name}
use Rattle.repo_index.specs.Order.{kind_cmp, place_first, names_total, place_first_total}
use Rattle.repo_index.specs.Lookups.{EndsWith, AreFactsOf, ArePacksOf, HasSame}
use Rattle.repo_index.specs.declared.facts.Fact.{Fact}
use Rattle.repo_index.proofs.OrderLemmas.{names_exact, place_first_exact, same_le}

-- ---- members of lists

only : {X : Type 0} (x y : X) → Contains (x ∷ []) y → x ≡ y
only x y h = elim (contained_or x [] y h) [ inl same ↦ same | inr none ↦ absurd (none_contained y none) ]

-- ---- those of the same facts

pub same_facts_of : (facts same : List Fact) (pack : Name) (own : List Fact) → HasSame facts same → AreFactsOf same pack own → AreFactsOf facts pack own
same_facts_of facts same pack own are of = record {
  each = λ f. (λ h. (let is = (of.each f).0 h in ((are f).0 is.0, is.1)), λ h. (of.each f).1 ((are f).1 h.0, h.1));
  ascend = of.ascend;
}

pub same_packs_of : (facts same : List Fact) (packs : List Name) → HasSame facts same → ArePacksOf same packs → ArePacksOf facts packs
same_packs_of facts same packs are of = record {
  each = λ p. (λ h. (let is = (of.each p).0 h in (is.0, (are is.0).0 is.1, is.2)), λ h. (of.each p).1 (h.0, (are h.0).1 h.1, h.2));
  ascend = of.ascend;
}

-- ---- the packs of facts

less_left : {K : Type 0} (P : K → Type 0) (xs ys : List K) → AllByRecursion P (xs ++ ys) → AllByRecursion P xs
less_left P [] ys h = tt
less_left P (x ∷ xs) ys h = (h.0, less_left P xs ys h.1)

less_push : {K : Type 0} (P : K → Type 0) (ys : List K) (k : K) → AllByRecursion P ys → P k → AllByRecursion P (ys ++ k ∷ [])
less_push P [] k h g = (g, tt)
less_push P (y ∷ ys) k h g = (h.0, less_push P ys k h.1 g)

sorted_push : {K : Type 0} (c : K → K → Ordering) (ks : List K) (k : K) → IsStrictlySortedBy c ks → ((x : K) → Contains ks x → c x k ≡ Less)
    → IsStrictlySortedBy c (ks ++ k ∷ [])
unfolding IsStrictlySortedBy
sorted_push c [] k h g = (tt, tt)
sorted_push {K} c (x ∷ ks) k h g = (less_push (λ (y : K). c x y ≡ Less) ks k h.0 (g x (first_contained x ks)), sorted_push c ks k h.1 (λ y is. g y (later_contained x ks y is)))

-- what stands before a key in order is less
less_in : {K : Type 0} (P : K → Type 0) (xs : List K) (x : K) → AllByRecursion P xs → Contains xs x → P x
less_in P [] x all h = absurd (none_contained x h)
less_in P (y ∷ xs) x all h = elim (contained_or y xs x h) [ inl same ↦ subst P same all.0 | inr more ↦ less_in P xs x all.1 more ]

less_before : {K : Type 0} (c : K → K → Ordering) (xs : List K) (k : K) (rest : List K) (x : K) → IsStrictlySortedBy c (xs ++ k ∷ rest) → Contains xs x → c x k ≡ Less
less_before c [] k rest x sorted h = absurd (none_contained x h)
less_before {K} c (y ∷ xs) k rest x sorted h = elim (contained_or y xs x h) [
  | inl same ↦ subst (λ (z : K). c z k ≡ Less) same
      (less_in (λ (z : K). c y z ≡ Less) (xs ++ k ∷ rest) k (sorted_head c y (xs ++ k ∷ rest) sorted) (Contains-append_right xs (k ∷ rest) k (first_contained k rest)))
  | inr more ↦ less_before c xs k rest x (sorted_tail c y (xs ++ k ∷ rest) sorted) more
]

-- the last of a list
last_there : {K : Type 0} (y : K) (ys : List K) → (last : K) × (slice_get (y ∷ ys) (length ys) ≡ Some last)
last_there y [] = (y, refl)
last_there y (z ∷ ys) = let k = last_there z ys in (k.0, k.1)

last_in : {K : Type 0} (y : K) (ys : List K) (last : K) → slice_get (y ∷ ys) (length ys) ≡ Some last → Contains (y ∷ ys) last
last_in y [] last h = let e : y ≡ last = cc h in subst (Contains (y ∷ [])) e (first_contained y [])
last_in y (z ∷ ys) last h = later_contained y (z ∷ ys) last (last_in z ys last h)

-- in a list in order it stands at or after all others
last_greatest : {K : Type 0} (c : K → K → Ordering) (y : K) (ys : List K) (last x : K) → slice_get (y ∷ ys) (length ys) ≡ Some last
    → IsStrictlySortedBy c (y ∷ ys) → Contains (y ∷ ys) x → (x ≡ last) ⊎ (c x last ≡ Less)
last_greatest c y [] last x h sorted is = let e : y ≡ last = cc h in inl (sym (only y x is) ∙ e)
last_greatest {K} c y (z ∷ ys) last x h sorted is = elim (contained_or y (z ∷ ys) x is) [
  | inl same ↦ inr (subst (λ (w : K). c w last ≡ Less) same
      (less_in (λ (w : K). c y w ≡ Less) (z ∷ ys) last (sorted_head c y (z ∷ ys) sorted) (last_in z ys last h)))
  | inr more ↦ last_greatest c z ys last x h (sorted_tail c y (z ∷ ys) sorted) more
]

-- a fact before another in order is of a pack at or before the other's
pack_le : (a s u : Ordering) → ordering_then (ordering_then a s) u ≡ Less → is_gt a ≡ false
pack_le Less s u h = refl
pack_le Equal s u h = refl
pack_le Greater s u h = cc h

-- of a pack at or before another that isn't the other
less_or_equal : (o : Ordering) → is_gt o ≡ false → (o ≡ Less) ⊎ (o ≡ Equal)
less_or_equal Less h = inl refl
less_or_equal Equal h = inr refl
less_or_equal Greater h = cc h

-- what the packs so far are: each stands at or before the next fact's
before_next : (done : List Fact) (k : Fact) (rest : List Fact) (packs : List Name) → IsStrictlySortedBy place_first (done ++ k ∷ rest) → ArePacksOf done packs
    → (p : Name) → Contains packs p → is_gt (name_cmp p k.place.pack) ≡ false
before_next done k rest packs sorted are p is =
    let f = (are.each p).0 is in
    let less = less_before place_first done k rest f.0 sorted f.1 in
    subst (λ (n : Name). is_gt (name_cmp n k.place.pack) ≡ false) f.2
    (pack_le (name_cmp f.0.place.pack k.place.pack) (ordering_then (nat_cmp f.0.place.offset k.place.offset) (nat_cmp f.0.place.length k.place.length))
    (ordering_then (kind_cmp f.0.kind k.kind) (name_cmp f.0.name k.name)) less)

-- where they don't end with the next fact's pack it isn't among them
not_among : (packs : List Name) (pack : Name) → IsStrictlySortedBy name_cmp packs → ((p : Name) → Contains packs p → is_gt (name_cmp p pack) ≡ false)
    → (EndsWith packs pack → ⊥) → Contains packs pack → ⊥
not_among [] pack sorted before other is = none_contained pack is
not_among (y ∷ ys) pack sorted before other is =
    let last = last_there y ys in
    let size : suc (length ys) - 1 ≡ length ys = omega arith in
    let ends : EndsWith (y ∷ ys) last.0 = subst (λ (n : ℕ). slice_get (y ∷ ys) n ≡ Some last.0) (sym size) last.1 in
    elim (last_greatest name_cmp y ys last.0 pack last.1 sorted is) [
      | inl same ↦ other (subst (EndsWith (y ∷ ys)) (sym same) ends)
      | inr less ↦
          let after : name_cmp last.0 pack ≡ Greater = names_total.antisymm last.0 pack ∙ ap ordering_reverse less in
          let not_after = before last.0 (last_in y ys last.0 last.1) in
          let e : true ≡ false = sym (ap is_gt after) ∙ not_after in
          cc e
    ]

among : (packs : List Name) (pack : Name) → EndsWith packs pack → Contains packs pack
among [] pack h = cc h
among (y ∷ ys) pack h =
    let size : suc (length ys) - 1 ≡ length ys = omega arith in
    last_in y ys pack (subst (λ (n : ℕ). slice_get (y ∷ ys) n ≡ Some pack) size h)

-- a fact of the last pack more
packs_same : (done : List Fact) (k : Fact) (packs : List Name) → ArePacksOf done packs → EndsWith packs k.place.pack → ArePacksOf (done ++ k ∷ []) packs
packs_same done k packs are ends = record {
  each = λ p. (
    λ h. let f = (are.each p).0 h in (f.0, Contains-append_left done (k ∷ []) f.0 f.1, f.2),
    λ h. elim (Contains-push_cases done k h.0 h.1) [
      | inl before ↦ (are.each p).1 (h.0, before, h.2)
      | inr same ↦ subst (Contains packs) (ap (λ (f : Fact). f.place.pack) same ∙ h.2) (among packs k.place.pack ends)
    ],
  );
  ascend = are.ascend;
}

-- a fact of another pack more
packs_more : (done : List Fact) (k : Fact) (rest : List Fact) (packs : List Name) → IsStrictlySortedBy place_first (done ++ k ∷ rest) → ArePacksOf done packs
    → (EndsWith packs k.place.pack → ⊥) → ArePacksOf (done ++ k ∷ []) (packs ++ k.place.pack ∷ [])
packs_more done k rest packs sorted are other =
    let before = before_next done k rest packs sorted are in
    let absent = not_among packs k.place.pack are.ascend before other in
    record {
      each = λ p. (
        λ h. elim (Contains-push_cases packs k.place.pack p h) [
          | inl old ↦ let f = (are.each p).0 old in (f.0, Contains-append_left done (k ∷ []) f.0 f.1, f.2)
          | inr same ↦ (k, Contains-push done k, same)
        ],
        λ h. elim (Contains-push_cases done k h.0 h.1) [
          | inl old ↦ Contains-append_left packs (k.place.pack ∷ []) p ((are.each p).1 (h.0, old, h.2))
          | inr same ↦ subst (Contains (packs ++ k.place.pack ∷ [])) (ap (λ (f : Fact). f.place.pack) same ∙ h.2) (Contains-push packs k.place.pack)
        ],
      );
      ascend = sorted_push name_cmp packs k.place.pack are.ascend (λ p is. elim (less_or_equal (name_cmp p k.place.pack) (before p is)) [
        | inl less ↦ less
        | inr equal ↦ absurd (absent (subst (Contains packs) (names_exact p k.place.pack equal) is))
      ]);
    }

none_sorted : IsStrictlySortedBy name_cmp []
unfolding IsStrictlySortedBy
none_sorted = tt

pub packs_none : ArePacksOf [] []
packs_none = record { each = λ p. (λ h. absurd (none_contained p h), λ h. absurd (none_contained h.0 h.1)); ascend = none_sorted }

-- ---- a loop over facts in order

module _ (facts : List Fact) (i : ℕ) (other : Fact) (packs : List Name) (lt : i < length facts) (are : ArePacksOf (take i facts) packs) where
  pub packs_passed : EndsWith packs (get_or facts i other).place.pack → ArePacksOf (take (i + 1) facts) packs
  packs_passed ends =
      subst (λ (fs : List Fact). ArePacksOf fs packs) (sym (take_more facts i other lt)) (packs_same (take i facts) (get_or facts i other) packs are ends)

  pub packs_added : IsStrictlySortedBy place_first facts → (EndsWith packs (get_or facts i other).place.pack → ⊥)
      → ArePacksOf (take (i + 1) facts) (packs ++ (get_or facts i other).place.pack ∷ [])
  packs_added sorted apart =
      let fact = get_or facts i other in
      let parts : take i facts ++ fact ∷ drop (i + 1) facts ≡ facts = ap (λ (fs : List Fact). take i facts ++ fs) (sym (drop_more facts i other lt)) ∙ take-append-drop i facts in
      let there = subst (IsStrictlySortedBy place_first) (sym parts) sorted in
      subst (λ (fs : List Fact). ArePacksOf fs (packs ++ fact.place.pack ∷ [])) (sym (take_more facts i other lt))
      (packs_more (take i facts) fact (drop (i + 1) facts) packs there are apart)

-- ---- a pack's facts

sorted_left : {K : Type 0} (c : K → K → Ordering) (xs ys : List K) → IsStrictlySortedBy c (xs ++ ys) → IsStrictlySortedBy c xs
unfolding IsStrictlySortedBy
sorted_left c [] ys h = tt
sorted_left {K} c (x ∷ xs) ys h = (less_left (λ (y : K). c x y ≡ Less) xs ys h.0, sorted_left c xs ys h.1)

sorted_right : {K : Type 0} (c : K → K → Ordering) (xs ys : List K) → IsStrictlySortedBy c (xs ++ ys) → IsStrictlySortedBy c ys
sorted_right c [] ys h = h
sorted_right c (x ∷ xs) ys h = sorted_right c xs ys (sorted_tail c x (xs ++ ys) h)

-- of two places in a list in order the first has less
less_at : {K : Type 0} (c : K → K → Ordering) (xs : List K) (i j : ℕ) (d : K) → IsStrictlySortedBy c xs → i < j → j < length xs → c (get_or xs i d) (get_or xs j d) ≡ Less
less_at c [] i j d h lt within = absurd (omega (arith, within))
less_at c (x ∷ xs) i zero d h lt within = absurd (omega (arith, lt))
less_at {K} c (x ∷ xs) zero (suc j) d h lt within =
    less_in (λ (y : K). c x y ≡ Less) xs (get_or xs j d) (sorted_head c x xs h) (Contains-get_or xs j d (omega (arith, within)))
less_at c (x ∷ xs) (suc i) (suc j) d h lt within = less_at c xs i j d (sorted_tail c x xs h) (omega (arith, lt)) (omega (arith, within))

-- the packs of facts in order don't fall
packs_rise : (facts : List Fact) (i j : ℕ) (d : Fact) → IsStrictlySortedBy place_first facts → i ≤ j → j < length facts
    → is_gt (name_cmp (get_or facts i d).place.pack (get_or facts j d).place.pack) ≡ false
packs_rise facts i j d sorted le within = elim (cases_lt i j) [
  | inl lt ↦
      let a = get_or facts i d in
      let b = get_or facts j d in
      pack_le (name_cmp a.place.pack b.place.pack) (ordering_then (nat_cmp a.place.offset b.place.offset) (nat_cmp a.place.length b.place.length))
      (ordering_then (kind_cmp a.kind b.kind) (name_cmp a.name b.name)) (less_at place_first facts i j d sorted lt within)
  | inr ge ↦
      let same : i ≡ j = omega (arith, le, ge) in
      same_le names_total (get_or facts i d).place.pack (get_or facts j d).place.pack (ap (λ (n : ℕ). (get_or facts n d).place.pack) same)
]

-- a test that the less pass and the greater don't, the names before one that passes pass too
passes_before : (test : Ordering → Bool) (a b pack : Name) → test Less ≡ true → test Greater ≡ false → is_gt (name_cmp a b) ≡ false
    → test (name_cmp b pack) ≡ true → test (name_cmp a pack) ≡ true
passes_before test a b pack low high le h = elim (less_or_equal (name_cmp a b) le) [
  | inr equal ↦ subst (λ (n : Name). test (name_cmp n pack) ≡ true) (sym (names_exact a b equal)) h
  | inl less ↦ ap test (less_then a b pack less (name_cmp b pack) refl (λ gt. let e : true ≡ false = sym h ∙ ap test gt ∙ high in cc e)) ∙ low
]
  where
    less_then : (a b pack : Name) → name_cmp a b ≡ Less → (o : Ordering) → name_cmp b pack ≡ o → (o ≡ Greater → ⊥) → name_cmp a pack ≡ Less
    less_then a b pack less Less is after = names_total.trans a b pack less is
    less_then a b pack less Equal is after = subst (λ (n : Name). name_cmp a n ≡ Less) (names_exact b pack is) less
    less_then a b pack less Greater is after = absurd (after refl)

-- so such a test of the pack parts facts in order
pub packs_parted : (test : Ordering → Bool) (pack : Name) (facts : List Fact) → test Less ≡ true → test Greater ≡ false → IsStrictlySortedBy place_first facts
    → IsPartitionedBy (λ (f : Fact). test (name_cmp f.place.pack pack)) facts
packs_parted test pack facts low high sorted i j d le within h =
    passes_before test (get_or facts i d).place.pack (get_or facts j d).place.pack pack low high (packs_rise facts i j d sorted le within) h

front_all : {K : Type 0} (P : K → Type 0) (xs : List K) (i : ℕ) (x : K) → i ≤ length xs → AllWithin P xs 0 i → Contains (take i xs) x → P x
front_all P xs i x le all h =
    let lt : h.0 < i = subst (λ (n : ℕ). h.0 < n) (length-take-le i xs le) h.1 in
    subst P (sym (get_or-take i xs h.0 x lt) ∙ h.2) (all h.0 x (omega arith) lt)

back_all : {K : Type 0} (P : K → Type 0) (xs : List K) (i : ℕ) (x : K) → i ≤ length xs → AllWithin P xs i (length xs) → Contains (drop i xs) x → P x
back_all P xs i x le all h =
    let long : length (drop i xs) ≡ length xs - i = length-drop i xs in
    subst P (sym (get_or-drop i xs h.0 x) ∙ h.2) (all (i + h.0) x (omega arith) (omega (arith, h.1, long, le)))

-- neither before nor after
equal_of : (o : Ordering) → is_lt o ≡ false → is_le o ≡ true → o ≡ Equal
equal_of Less h g = cc h
equal_of Equal h g = refl
equal_of Greater h g = cc g

-- what is left of facts in order is in order
pub rest_sorted : (facts rest : List Fact) (start : ℕ) → rest ≡ drop start facts → IsStrictlySortedBy place_first facts → IsStrictlySortedBy place_first rest
rest_sorted facts rest start is sorted =
    subst (IsStrictlySortedBy place_first) (sym is)
    (sorted_right place_first (take start facts) (drop start facts) (subst (IsStrictlySortedBy place_first) (sym (take-append-drop start facts)) sorted))

-- the run of a pack's facts begins where those of the packs before it end, and ends where those of the packs after it begin
pub run_is : (facts rest : List Fact) (pack : Name) (start count : ℕ) → IsStrictlySortedBy place_first facts → rest ≡ drop start facts → start ≤ length facts → count ≤ length rest
    → IsPartitionPoint (λ (f : Fact). is_lt (name_cmp f.place.pack pack) ≡ true) (λ (f : Fact). is_lt (name_cmp f.place.pack pack) ≡ false) facts start
    → IsPartitionPoint (λ (f : Fact). is_le (name_cmp f.place.pack pack) ≡ true) (λ (f : Fact). is_le (name_cmp f.place.pack pack) ≡ false) rest count
    → AreFactsOf facts pack (take count rest)
run_is facts rest pack start count sorted is le short point end =
    let before = take start facts in
    let run = take count rest in
    let after = drop count rest in
    let whole : before ++ rest ≡ facts = ap (λ (fs : List Fact). before ++ fs) is ∙ take-append-drop start facts in
    let halves : run ++ after ≡ rest = take-append-drop count rest in
    record {
      each = λ f. (
        λ h.
            let there : Contains rest f = subst (λ (fs : List Fact). Contains fs f) halves (Contains-append_left run after f h) in
            let low = back_all (λ (g : Fact). is_lt (name_cmp g.place.pack pack) ≡ false) facts start f le point.1 (subst (λ (fs : List Fact). Contains fs f) is there) in
            let high = front_all (λ (g : Fact). is_le (name_cmp g.place.pack pack) ≡ true) rest count f short end.0 h in (
              subst (λ (fs : List Fact). Contains fs f) whole (Contains-append_right before rest f there),
              names_exact f.place.pack pack (equal_of (name_cmp f.place.pack pack) low high),
            ),
        λ h.
            let tied : name_cmp f.place.pack pack ≡ Equal = subst (λ (n : Name). name_cmp f.place.pack n ≡ Equal) h.1 (tied_itself names_total f.place.pack) in
            elim (Contains-append_cases before rest f (subst (λ (fs : List Fact). Contains fs f) (sym whole) h.0)) [
              | inl early ↦
                  let e : false ≡ true = sym (ap is_lt tied) ∙ front_all (λ (g : Fact). is_lt (name_cmp g.place.pack pack) ≡ true) facts start f le point.0 early in
                  cc e
              | inr there ↦ elim (Contains-append_cases run after f (subst (λ (fs : List Fact). Contains fs f) (sym halves) there)) [
                | inl own ↦ own
                | inr late ↦
                    let e : true ≡ false = sym (ap is_le tied) ∙ back_all (λ (g : Fact). is_le (name_cmp g.place.pack pack) ≡ false) rest count f short end.1 late in
                    cc e
              ]
            ],
      );
      ascend = sorted_left place_first run after (subst (IsStrictlySortedBy place_first) (sym halves) (rest_sorted facts rest start is sorted));
    }

-- ---- facts, sorted, each once

sorted_equal : (a b : Fact) → eq_by_cmp place_first a b ≡ true → a ≡ b
sorted_equal a b h = place_first_exact a b (is_equal (place_first a b) h)
  where
    is_equal : (o : Ordering) → is_eq o ≡ true → o ≡ Equal
    is_equal Less h = cc h
    is_equal Equal h = refl
    is_equal Greater h = cc h

-- what a `dedup` by equality leaves of them
pub once_is : (same : Fact → Fact → Bool) (sorted once : List Fact) → IsFiltered (DiffersFromLast same) [] sorted once → ((a b : Fact) → Decides (same a b) (a ≡ b))
    → once ≡ dedup (eq_by_cmp place_first) sorted
once_is same sorted once left decides = dedup_is same sorted once left ∙ ap (λ (test : Fact → Fact → Bool). dedup test sorted) (λ i a b. ties a b i)
  where
    ties : (a b : Fact) → same a b ≡ eq_by_cmp place_first a b
    ties a b = same_from_decides (same a b) (eq_by_cmp place_first a b) (decides a b) (
      sorted_equal a b,
      λ is. subst (λ (f : Fact). eq_by_cmp place_first a f ≡ true) is ((eq_by_cmp_equiv place_first_total).refl a),
    )

pub once_same : (facts sorted : List Fact) → IsPermutation facts sorted → HasSame facts (dedup (eq_by_cmp place_first) sorted)
once_same facts sorted same f = (
  λ h. Contains-permutation sorted facts f (IsPermutation-sym facts sorted same) (Contains-from_dedup (eq_by_cmp place_first) sorted f h),
  λ h. Contains-dedup (eq_by_cmp_equiv place_first_total) sorted_equal sorted f (Contains-permutation facts sorted f same h),
)

pub once_sorted : (sorted : List Fact) → IsSorted place_first sorted → IsStrictlySortedBy place_first (dedup (eq_by_cmp place_first) sorted)
once_sorted sorted h = IsStrictlySortedBy-dedup place_first_total (λ a b. refl) sorted h
