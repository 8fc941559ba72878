-- How often a pair of kind and name stands among facts.
use Rattle.std.proofs.Common.{arith, zero, suc, ◌≡◌, ◌≤◌, ◌+◌, ◌⊎◌, ◌++◌, ◌∷◌, [], ℕ, Bool, true, false, cond, List, Some, length, map, take, drop, slice_get, refl, sym, ap, subst, inl, inr, ◌∙◌, Contains}
use Rattle.std.specs.List.{sum_by}
use Rattle.std.specs.List.Sorted.{IsPermutation}
use Rattle.std.specs.Ordering.{is_eq}
use Rattle.std.specs.Cmp.{eq_by_cmp_equiv}
use Rattle.repo_name.proofs.Containing.{contained_or, first_contained, later_contained, none_contained}
use Rattle.repo_name.proofs.NameMaps.{same_name}
use Rattle.std.proofs.lemmas.List.{map-append, take-append-drop}
use Rattle.std.proofs.lemmas.List.Concat.{flat_map-append}
use Rattle.std.proofs.lemmas.List.Sums.{sum_by-cons}
use Rattle.std.proofs.lemmas.List.Sorted.{sum_by-IsPermutation}
use Rattle.std.proofs.lemmas.Option.{same_Some}
use Rattle.repo_name.specs.Naming.{name_cmp}
use Rattle.repo_name.specs.declared.kinds.BlobKind.{BlobKind}
use Rattle.repo_name.specs.declared.kinds.BlobKind.TheVariants.{Content, Tree}
use Rattle.repo_name.specs.declared.names.Name.{Name}
use Rattle.repo_pack.specs.PackLayout.{Item}
use Rattle.repo_index.specs.Exactness.{fact_at}
use Rattle.repo_index.specs.IndexText.{facts_in, fact_of}
use Rattle.repo_index.specs.Order.{names_total}
use Rattle.repo_index.specs.declared.facts.Fact.{Fact}
use Rattle.repo_index.specs.declared.facts.PackFacts.{PackFacts}
use Rattle.repo_writing.specs.Blobs.{HasItem, AreOnce, HasFact, AreFactsOnce}
use Rattle.repo_writing.specs.Writing.{Put, IsPut, items_of}
use Rattle.repo_session.specs.Traces.{Each}
use Rattle.repo_prune.specs.Pruning.{Pair, pair_of_item, pair_of_fact}

-- ---- one pair

same_blob_kind : BlobKind → BlobKind → Bool
same_blob_kind Content Content = true
same_blob_kind Tree Tree = true
same_blob_kind Content Tree = false
same_blob_kind Tree Content = false

both : Bool → Bool → Bool
both true b = b
both false b = false

-- one where it is this pair
weigh : BlobKind → Name → Pair → ℕ
weigh k n p = cond (both (same_blob_kind k p.kind) (is_eq (name_cmp n p.name))) 1 0

kind_itself : (k : BlobKind) → same_blob_kind k k ≡ true
unfolding same_blob_kind
kind_itself Content = refl
kind_itself Tree = refl

kinds_same : (j k : BlobKind) → same_blob_kind j k ≡ true → k ≡ j
unfolding same_blob_kind
kinds_same Content Content h = refl
kinds_same Tree Tree h = refl
kinds_same Content Tree h = absurd (cc)
kinds_same Tree Content h = absurd (cc)

name_itself : (n : Name) → is_eq (name_cmp n n) ≡ true
name_itself n = (eq_by_cmp_equiv names_total).refl n

weigh_itself : (k : BlobKind) (n : Name) → weigh k n (record { kind = k; name = n }) ≡ 1
unfolding weigh both
weigh_itself k n =
    let inner : both (same_blob_kind k k) (is_eq (name_cmp n n)) ≡ both true (is_eq (name_cmp n n)) = ap (λ b. both b (is_eq (name_cmp n n))) (kind_itself k) in
    ap (λ b. cond b 1 0) (inner ∙ name_itself n)

weigh_is : (k : BlobKind) (n : Name) (p : Pair) → p ≡ record { kind = k; name = n } → weigh k n p ≡ 1
weigh_is k n p is = subst (λ q. weigh k n q ≡ 1) (sym is) (weigh_itself k n)

both_yes : (a b : Bool) → both a b ≡ true → (a ≡ true) × (b ≡ true)
unfolding both
both_yes true true h = (refl, refl)
both_yes true false h = absurd (cc)
both_yes false b h = absurd (cc)

-- it is that pair, or weighs nothing
weigh_or : (k : BlobKind) (n : Name) (p : Pair) → ((p.kind ≡ k) × (p.name ≡ n)) ⊎ (weigh k n p ≡ 0)
unfolding weigh
weigh_or k n p = by_test (both (same_blob_kind k p.kind) (is_eq (name_cmp n p.name))) refl
  where
    by_test : (b : Bool) → both (same_blob_kind k p.kind) (is_eq (name_cmp n p.name)) ≡ b → ((p.kind ≡ k) × (p.name ≡ n)) ⊎ (weigh k n p ≡ 0)
    by_test true h = let y = both_yes (same_blob_kind k p.kind) (is_eq (name_cmp n p.name)) h in inl (kinds_same k p.kind y.0, sym (same_name n p.name y.1))
    by_test false h = inr (ap (λ b. cond b 1 0) h)

weigh_most : (k : BlobKind) (n : Name) (p : Pair) → weigh k n p ≤ 1
unfolding weigh
weigh_most k n p = at_most (both (same_blob_kind k p.kind) (is_eq (name_cmp n p.name)))
  where
    at_most : (b : Bool) → cond b 1 0 ≤ 1
    at_most true = omega arith
    at_most false = omega arith

-- ---- many pairs

pub count : BlobKind → Name → List Pair → ℕ
count k n [] = 0
count k n (p ∷ ps) = weigh k n p + count k n ps

abbrev pub pairs_of : List Fact → List Pair
pairs_of facts = map pair_of_fact facts

pub counted_has : (k : BlobKind) (n : Name) (facts : List Fact) → 1 ≤ count k n (pairs_of facts) → HasFact facts k n
unfolding count
counted_has k n [] h = absurd (omega (arith, h))
counted_has k n (f ∷ facts) h = elim (weigh_or k n (pair_of_fact f)) [
  | inl is ↦
      let fact : f ≡ fact_of k n f.place = λ i. record { kind = is.0 i; name = is.1 i; place = f.place } in
      (f.place, subst (λ g. Contains (f ∷ facts) g) fact (first_contained f facts))
  | inr none ↦ let more = counted_has k n facts (omega (arith, h, none)) in (more.0, later_contained f facts (fact_of k n more.0) more.1)
]

pub has_counted : (k : BlobKind) (n : Name) (facts : List Fact) → HasFact facts k n → 1 ≤ count k n (pairs_of facts)
unfolding count
has_counted k n [] h = absurd (none_contained (fact_of k n h.0) h.1)
has_counted k n (f ∷ facts) h = elim (contained_or f facts (fact_of k n h.0) h.1) [
  | inl same ↦
      let is : pair_of_fact f ≡ record { kind = k; name = n } = ap pair_of_fact same in
      let one = weigh_is k n (pair_of_fact f) is in
      omega (arith, one)
  | inr more ↦ let rest = has_counted k n facts (h.0, more) in omega (arith, rest)
]

none_counted : (k : BlobKind) (n : Name) (facts : List Fact) → ¬ HasFact facts k n → count k n (pairs_of facts) ≡ 0
none_counted k n facts none =
    let few : 1 ≤ count k n (pairs_of facts) → ⊥ = λ h. none (counted_has k n facts h) in
    omega (arith, few)

pub once_counted : (facts : List Fact) → AreFactsOnce facts → (k : BlobKind) (n : Name) → count k n (pairs_of facts) ≤ 1
unfolding count
once_counted [] h k n = omega arith
once_counted (f ∷ facts) h k n = elim (weigh_or k n (pair_of_fact f)) [
  | inl is ↦
      let at : ¬ HasFact facts k n = subst (λ j. ¬ HasFact facts j n) is.0 (subst (λ m. ¬ HasFact facts f.kind m) is.1 h.0) in
      let none = none_counted k n facts at in
      let most = weigh_most k n (pair_of_fact f) in
      omega (arith, none, most)
  | inr light ↦ let rest = once_counted facts h.1 k n in omega (arith, light, rest)
]

pub counted_once : (facts : List Fact) → ((k : BlobKind) (n : Name) → count k n (pairs_of facts) ≤ 1) → AreFactsOnce facts
unfolding count
counted_once [] h = tt
counted_once (f ∷ facts) h = (
  (λ has.
      let more = has_counted f.kind f.name facts has in
      let one = weigh_is f.kind f.name (pair_of_fact f) refl in
      let all = h f.kind f.name in
      absurd (omega (arith, more, one, all))),
  counted_once facts (λ k n. let all = h k n in omega (arith, all)),
)

pub count_append : (k : BlobKind) (n : Name) (ps qs : List Pair) → count k n (ps ++ qs) ≡ count k n ps + count k n qs
unfolding count
count_append k n [] qs = omega arith
count_append k n (p ∷ ps) qs = let rest = count_append k n ps qs in omega (arith, rest)

-- ---- of items

item_counted : (k : BlobKind) (n : Name) (items : List Item) → HasItem items k n → 1 ≤ count k n (map pair_of_item items)
unfolding count
item_counted k n [] h = absurd (none_contained h.0 h.1)
item_counted k n (i ∷ items) h = elim (contained_or i items h.0 h.1) [
  | inl same ↦
      let named : pair_of_item h.0 ≡ record { kind = k; name = n } = λ j. record { kind = h.2 j; name = h.3 j } in
      let is : pair_of_item i ≡ record { kind = k; name = n } = ap pair_of_item same ∙ named in
      let one = weigh_is k n (pair_of_item i) is in
      omega (arith, one)
  | inr more ↦ let rest = item_counted k n items (h.0, more, h.2, h.3) in omega (arith, rest)
]

pub items_once : (items : List Item) → ((k : BlobKind) (n : Name) → count k n (map pair_of_item items) ≤ 1) → AreOnce items
unfolding count
items_once [] h = tt
items_once (i ∷ items) h = (
  (λ has.
      let more = item_counted i.kind i.name items has in
      let one = weigh_is i.kind i.name (pair_of_item i) refl in
      let all = h i.kind i.name in
      absurd (omega (arith, more, one, all))),
  items_once items (λ k n. let all = h k n in omega (arith, all)),
)

-- where some facts are of one pair each, and these items are of the pairs of first ones of the last of them, each of these is there once
pub moved_once : (kept moves : List Fact) (added : ℕ) (items : List Item) → AreFactsOnce (kept ++ moves) → map pair_of_item items ≡ map pair_of_fact (take added moves) → AreOnce items
moved_once kept moves added items once same = items_once items (λ k n.
    let all = once_counted (kept ++ moves) once k n in
    let front : count k n (pairs_of (kept ++ moves)) ≡ count k n (pairs_of kept) + count k n (pairs_of moves) = ap (count k n) (map-append pair_of_fact kept moves) ∙ count_append k n (pairs_of kept) (pairs_of moves) in
    let back : count k n (pairs_of moves) ≡ count k n (pairs_of (take added moves)) + count k n (pairs_of (drop added moves)) =
    ap (λ fs. count k n (pairs_of fs)) (sym (take-append-drop added moves)) ∙ ap (count k n) (map-append pair_of_fact (take added moves) (drop added moves)) ∙ count_append k n (pairs_of (take added moves)) (pairs_of (drop added moves)) in
    let here : count k n (map pair_of_item items) ≡ count k n (pairs_of (take added moves)) = ap (count k n) same in
    omega (arith, all, front, back, here))

-- ---- of packs

count_packs : (k : BlobKind) (n : Name) (packs : List PackFacts) → count k n (pairs_of (facts_in packs)) ≡ sum_by (λ (p : PackFacts). count k n (pairs_of p.facts)) packs
unfolding count
count_packs k n [] = refl
count_packs k n (p ∷ packs) =
    let joined : pairs_of (facts_in (p ∷ packs)) ≡ pairs_of p.facts ++ pairs_of (facts_in packs) = map-append pair_of_fact p.facts (facts_in packs) in
    ap (count k n) joined ∙ count_append k n (pairs_of p.facts) (pairs_of (facts_in packs)) ∙ ap (λ c. count k n (pairs_of p.facts) + c) (count_packs k n packs)
    ∙ sym (sum_by-cons (λ (q : PackFacts). count k n (pairs_of q.facts)) p packs)

-- in whatever order the packs stand
pub count_shuffled : (k : BlobKind) (n : Name) (packs shuffled : List PackFacts) → IsPermutation packs shuffled → count k n (pairs_of (facts_in shuffled)) ≡ count k n (pairs_of (facts_in packs))
count_shuffled k n packs shuffled h = count_packs k n shuffled ∙ sum_by-IsPermutation (λ (p : PackFacts). count k n (pairs_of p.facts)) packs shuffled h ∙ sym (count_packs k n packs)

-- ---- the pairs of packs that were put

pairs_at : (facts : List Fact) (items : List Item) → length facts ≡ length items → ((j : ℕ) (item : Item) → slice_get items j ≡ Some item → (f : Fact) × (slice_get facts j ≡ Some f) × (pair_of_fact f ≡ pair_of_item item)) → map pair_of_fact facts ≡ map pair_of_item items
pairs_at [] [] long h = refl
pairs_at [] (i ∷ items) long h = absurd (omega (arith, long))
pairs_at (f ∷ facts) [] long h = absurd (omega (arith, long))
pairs_at (f ∷ facts) (i ∷ items) long h =
    let first = h zero i refl in
    let same : pair_of_fact f ≡ pair_of_item i = ap pair_of_fact (same_Some f first.0 first.1) ∙ first.2 in
    let rest = pairs_at facts items (omega (arith, long)) (λ j item at. h (suc j) item at) in
    ap (λ (p : Pair). p ∷ map pair_of_fact facts) same ∙ ap (λ (ps : List Pair). pair_of_item i ∷ ps) rest

put_pairs : (p : Put) → IsPut p → map pair_of_fact p.listed.facts ≡ map pair_of_item p.items
put_pairs p is = pairs_at p.listed.facts p.items is.exact.count (λ j item at. (fact_at p.pack.name p.items j item, is.exact.each j item at, refl))

pub puts_pairs : (puts : List Put) → Each IsPut puts → pairs_of (facts_in (map (λ (p : Put). p.listed) puts)) ≡ map pair_of_item (items_of puts)
puts_pairs [] h = refl
puts_pairs (p ∷ puts) h =
    map-append pair_of_fact p.listed.facts (facts_in (map (λ (q : Put). q.listed) puts)) ∙ ap (λ (ps : List Pair). ps ++ pairs_of (facts_in (map (λ (q : Put). q.listed) puts))) (put_pairs p h.0)
    ∙ ap (λ (ps : List Pair). map pair_of_item p.items ++ ps) (puts_pairs puts h.1) ∙ sym (map-append pair_of_item p.items (items_of puts))

-- packs that stay and packs that were put have the pairs of what stays and of what moves
pub repacked_pairs : (kept : List PackFacts) (puts : List Put) (moves : List Fact) → Each IsPut puts → map pair_of_item (items_of puts) ≡ map pair_of_fact moves
    → pairs_of (facts_in (kept ++ map (λ (p : Put). p.listed) puts)) ≡ pairs_of (facts_in kept ++ moves)
repacked_pairs kept puts moves each moved =
    let listings = map (λ (p : Put). p.listed) puts in
    ap pairs_of (flat_map-append (λ (p : PackFacts). p.facts) kept listings) ∙ map-append pair_of_fact (facts_in kept) (facts_in listings)
    ∙ ap (λ (ps : List Pair). pairs_of (facts_in kept) ++ ps) (puts_pairs puts each ∙ moved) ∙ sym (map-append pair_of_fact (facts_in kept) moves)
