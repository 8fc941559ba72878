-- Blobs that an index lists are each there once, and no index put before gives them.
use Rattle.std.proofs.Common.{arith, zero, suc, ◌≡◌, ◌++◌, ◌∷◌, [], ℕ, List, length, map, slice_get, Some, refl, sym, ap, subst, inl, inr, ◌∙◌, Contains}
use Rattle.std.specs.Prelude.{⊤}
use Rattle.std.proofs.lemmas.List.Concat.{flat_map-append}
use Rattle.std.proofs.lemmas.List.Elements.{Contains-append_right}
use Rattle.std.proofs.lemmas.Option.{same_Some}
use Rattle.repo_name.proofs.Containing.{none_contained, first_contained, later_contained, contained_or}
use Rattle.repo_name.specs.declared.kinds.BlobKind.{BlobKind}
use Rattle.repo_name.specs.declared.names.Name.{Name}
use Rattle.repo_pack.specs.PackLayout.{Item}
use Rattle.repo_index.specs.Exactness.{fact_at}
use Rattle.repo_index.specs.IndexText.{facts_in, fact_of}
use Rattle.repo_index.specs.declared.facts.Fact.{Fact}
use Rattle.repo_index.specs.declared.facts.PackFacts.{PackFacts}
use Rattle.repo_session.specs.Traces.{Each, Trace}
use Rattle.repo_writing.proofs.Writings.{listing_of, each_alone}
use Rattle.repo_writing.proofs.Unlisted.{indexed_before}
use Rattle.repo_writing.specs.Blobs.{HasItem, AreOnce, HasFact, AreFactsOnce}
use Rattle.repo_writing.specs.Putting.{IsIndexed}
use Rattle.repo_writing.specs.Writing.{Put, IsPut, items_of, ArePut, AreListed, packs_of}
use Rattle.repo_writing.specs.declared.counts.Counts.{Counts}

-- ---- facts of some items

-- the facts stand in the order of the items, each of the kind and the name of its item
abbrev Follow : List Item → List Fact → Type 0
Follow [] [] = ⊤
Follow [] (f ∷ facts) = ⊥
Follow (i ∷ items) [] = ⊥
Follow (i ∷ items) (f ∷ facts) = (f.kind ≡ i.kind) × (f.name ≡ i.name) × Follow items facts

follow_at : (items : List Item) (facts : List Fact) → length facts ≡ length items → ((j : ℕ) (item : Item) → slice_get items j ≡ Some item → (f : Fact) × (slice_get facts j ≡ Some f) × (f.kind ≡ item.kind) × (f.name ≡ item.name)) → Follow items facts
follow_at [] [] long h = tt
follow_at [] (f ∷ facts) long h = absurd (omega (arith, long))
follow_at (i ∷ items) [] long h = absurd (omega (arith, long))
follow_at (i ∷ items) (f ∷ facts) long h =
    let first = h zero i refl in
    let same : f ≡ first.0 = same_Some f first.0 first.1 in
    (ap (λ (x : Fact). x.kind) same ∙ first.2, ap (λ (x : Fact). x.name) same ∙ first.3, follow_at items facts (omega (arith, long)) (λ j item at. h (suc j) item at))

follow_both : (xs ys : List Item) (fs gs : List Fact) → Follow xs fs → Follow ys gs → Follow (xs ++ ys) (fs ++ gs)
follow_both [] ys [] gs h g = g
follow_both [] ys (f ∷ fs) gs h g = absurd h
follow_both (x ∷ xs) ys [] gs h g = absurd h
follow_both (x ∷ xs) ys (f ∷ fs) gs h g = (h.0, h.1, follow_both xs ys fs gs h.2 g)

put_follows : (p : Put) → IsPut p → Follow p.items p.listed.facts
put_follows p is = follow_at p.items p.listed.facts is.exact.count (λ j item at. (fact_at p.pack.name p.items j item, is.exact.each j item at, refl, refl))

puts_follow : (puts : List Put) → Each IsPut puts → Follow (items_of puts) (facts_in (map listing_of puts))
puts_follow [] h = tt
puts_follow (p ∷ puts) h = follow_both p.items (items_of puts) p.listed.facts (facts_in (map listing_of puts)) (put_follows p h.0) (puts_follow puts h.1)

has_item : (items : List Item) (facts : List Fact) (k : BlobKind) (n : Name) → Follow items facts → HasFact facts k n → HasItem items k n
has_item [] [] k n h has = absurd (none_contained (fact_of k n has.0) has.1)
has_item [] (f ∷ facts) k n h has = absurd h
has_item (i ∷ items) [] k n h has = absurd h
has_item (i ∷ items) (f ∷ facts) k n h has = elim (contained_or f facts (fact_of k n has.0) has.1) [
  | inl same ↦ (i, first_contained i items, sym h.0 ∙ ap (λ (x : Fact). x.kind) same, sym h.1 ∙ ap (λ (x : Fact). x.name) same)
  | inr more ↦ let rest = has_item items facts k n h.2 (has.0, more) in (rest.0, later_contained i items rest.0 rest.1, rest.2, rest.3)
]

-- where each item is there once, each fact is
facts_once : (items : List Item) (facts : List Fact) → Follow items facts → AreOnce items → AreFactsOnce facts
facts_once [] [] h once = tt
facts_once [] (f ∷ facts) h once = absurd h
facts_once (i ∷ items) [] h once = absurd h
facts_once (i ∷ items) (f ∷ facts) h once = (
  (λ has. once.0 (subst (λ j. HasItem items j i.name) h.0 (subst (λ m. HasItem items f.kind m) h.1 (has_item items facts f.kind f.name h.2 has)))),
  facts_once items facts h.2 once.1,
)

-- ---- facts behind others

facts_behind : (xs ys : List Fact) → AreFactsOnce (xs ++ ys) → AreFactsOnce ys
facts_behind [] ys once = once
facts_behind (x ∷ xs) ys once = facts_behind xs ys once.1

facts_apart : (xs ys : List Fact) (k : BlobKind) (n : Name) → AreFactsOnce (xs ++ ys) → HasFact xs k n → HasFact ys k n → ⊥
facts_apart [] ys k n once h g = none_contained (fact_of k n h.0) h.1
facts_apart (x ∷ xs) ys k n once h g = elim (contained_or x xs (fact_of k n h.0) h.1) [
  | inl same ↦ (
      let there : HasFact (xs ++ ys) k n = (g.0, Contains-append_right xs ys (fact_of k n g.0) g.1) in
      let kind : k ≡ x.kind = sym (ap (λ (y : Fact). y.kind) same) in
      let name : n ≡ x.name = sym (ap (λ (y : Fact). y.name) same) in
      once.0 (subst (λ j. HasFact (xs ++ ys) j x.name) kind (subst (λ m. HasFact (xs ++ ys) k m) name there)))
  | inr more ↦ facts_apart xs ys k n once.1 (h.0, more) g
]

-- ---- what waits

module _ (counts : Counts) (puts : List Put) (waiting : List PackFacts) (es : Trace) (put : ArePut counts puts [] es) (listed : AreListed (map listing_of puts) waiting es) where
  before : List Fact
  before = facts_in (packs_of listed.listings)

  all_once : AreOnce (items_of puts) → AreFactsOnce (before ++ facts_in waiting)
  unfolding before
  all_once once =
      let apart = ap facts_in listed.lists ∙ flat_map-append (λ (p : PackFacts). p.facts) (packs_of listed.listings) waiting in
      subst AreFactsOnce apart (facts_once (items_of puts) (facts_in (map listing_of puts)) (puts_follow puts (each_alone puts put.each)) once)

  -- where each blob of the packs put is there once, each of those that wait is, and no index put before gives it
  pub waits_once : AreOnce (items_of puts) → AreFactsOnce (facts_in waiting)
  waits_once once = facts_behind before (facts_in waiting) (all_once once)

  pub waits_unindexed : AreOnce (items_of puts) → (fact : Fact) → Contains (facts_in waiting) fact → ¬ IsIndexed es fact.kind fact.name
  unfolding before
  waits_unindexed once fact among is = facts_apart before (facts_in waiting) fact.kind fact.name (all_once once) (indexed_before (map listing_of puts) waiting es listed fact.kind fact.name is) (fact.place, among)
