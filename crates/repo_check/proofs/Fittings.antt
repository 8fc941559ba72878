-- An index and the packs that it names.
use Rattle.std.proofs.Common.{arith, ◌≡◌, ◌<◌, ◌≤◌, ◌+◌, ◌∷◌, [], ℕ, suc, List, Option, Some, None, length, slice_get, refl, inl, inr, sym, ap, subst, length-append, Contains}
use Rattle.std.specs.List.{All}
use Rattle.repo_name.specs.declared.kinds.Kind.{Kind}
use Rattle.repo_name.specs.declared.names.Name.{Name}
use Rattle.repo_pack.specs.PackLayout.{Item, IsPack, IsWithin, blobs_of, offset_of}
use Rattle.repo_pack.proofs.Offsets.{offset_of-cons}
use Rattle.repo_pack.proofs.Packs.{packs_one}
use Rattle.repo_index.specs.Exactness.{IsExactFor, fact_at}
use Rattle.repo_index.specs.IndexText.{IsIndexText, facts_in}
use Rattle.repo_index.specs.Lookups.{Joins, ArePacksOf}
use Rattle.repo_index.specs.declared.facts.Fact.{Fact}
use Rattle.repo_index.specs.declared.facts.PackFacts.{PackFacts}
use Rattle.repo_index.specs.IndexWriting.{AreLawful}
use Rattle.repo_index.proofs.OneLemmas.{index_texts_lawful}
use Rattle.repo_index.proofs.SameLemmas.{exact_same}
use Rattle.repo_name.proofs.Containing.{flat_contains, none_contained}
use Rattle.std.proofs.lemmas.List.Elements.{All-contains}
use Rattle.repo_check.specs.Answers.{Answer, Gathered}
use Rattle.repo_check.specs.Findings.{IsExactOf, IsFitting, IsMisplaced}
use Rattle.repo_check.specs.Laws.{FitsAsFound}
use Rattle.repo_check.specs.Fitting.{FactsOfPacks, IsKnownAs, AreKnown, ListsAsKnown, ListsOtherwise, Fits, Misfits}

-- ---- by the packs that are named

-- an index's facts alone are those of a look-up that holds it alone
own_fact : (text : List PackFacts) (facts : List Fact) → Joins [] (facts_in text) facts → (fact : Fact) → Contains (facts_in text) fact → Contains facts fact
own_fact text facts joined fact h = (joined fact).1 (inr h)

text_fact : (text : List PackFacts) (facts : List Fact) → Joins [] (facts_in text) facts → (fact : Fact) → Contains facts fact → Contains (facts_in text) fact
text_fact text facts joined fact h = elim ((joined fact).0 h) [ inl none ↦ absurd (none_contained fact none) | inr there ↦ there ]

pub fits_by : (text : List PackFacts) (packs : FactsOfPacks) (facts : List Fact) (names : List Name) → Joins [] (facts_in text) facts → ArePacksOf facts names
    → ((pack : Name) → Contains names pack → ListsAsKnown facts packs pack) → Fits text packs
fits_by text packs facts names joined named all = record {
  facts = facts;
  joined = joined;
  each = λ fact h. all fact.place.pack ((named.each fact.place.pack).1 (fact, own_fact text facts joined fact h, refl));
}

pub misfits_by : (text : List PackFacts) (packs : FactsOfPacks) (facts : List Fact) (names : List Name) → Joins [] (facts_in text) facts → ArePacksOf facts names
    → (pack : Name) × Contains names pack × ListsOtherwise facts packs pack → Misfits text packs
misfits_by text packs facts names joined named other =
    let of = (named.each other.0).0 other.1 in record {
      facts = facts;
      joined = joined;
      fact = of.0;
      among = text_fact text facts joined of.0 of.1;
      otherwise = subst (λ pack. ListsOtherwise facts packs pack) (sym of.2) other.2;
    }

-- ---- by the packs that came

-- where the last of some items ends
record Ending (items : List Item) : Type 0 where
  pub place : ℕ
  pub item : Item
  pub here : slice_get items place ≡ Some item
  pub ends : offset_of items place + length item.bytes ≡ length (blobs_of items)

ending : (first : Item) (items : List Item) → Ending (first ∷ items)
ending first [] =
    let start : offset_of (first ∷ []) 0 ≡ 0 = refl in
    record { place = 0; item = first; here = refl; ends = omega (arith, start, length-append first.bytes []) }
ending first (next ∷ items) =
    let rest = ending next items in
    let sum = rest.ends in
    record { place = suc rest.place; item = rest.item; here = rest.here; ends = omega (arith, sum, offset_of-cons first (next ∷ items) rest.place, length-append first.bytes (blobs_of (next ∷ items))) }

ending_of : (items : List Item) → 1 ≤ length items → Ending items
ending_of [] few = absurd (omega (arith, few))
ending_of (first ∷ items) few = ending first items

-- a fact of an index ends within what an index can list
within : (text : List PackFacts) → AreLawful text → (fact : Fact) → Contains (facts_in text) fact → fact.place.offset + fact.place.length ≤ 25_165_823
within text lawful fact h =
    let from = flat_contains (λ (p : PackFacts). p.facts) text fact h in
    let own = All-contains (λ (p : PackFacts). All (λ (f : Fact). (f.place.pack ≡ p.pack) × IsWithin f.place.offset f.place.length) p.facts) text from.0 lawful from.1 in
    (All-contains (λ (f : Fact). (f.place.pack ≡ from.0.pack) × IsWithin f.place.offset f.place.length) from.0.facts fact own from.2).1.ends

-- no index is exact for a pack that ends beyond that
not_exact : (text : List PackFacts) → AreLawful text → (pack : Name) (bytes : List ℕ) (items : List Item) → IsPack bytes items → 25_165_823 < length (blobs_of items) → IsExactFor text pack items → ⊥
not_exact text lawful pack bytes items is large exact =
    let last = ending_of items is.count.0 in
    let fact = fact_at pack items last.place last.item in
    let there = (exact fact).1 (last.place, last.item, last.here, refl) in
    let few = within text lawful fact there.0 in
    let ends = last.ends in
    omega (arith, few, ends, large)

module _ (answers : Gathered) (packs : FactsOfPacks) (known : AreKnown answers packs) (text : List PackFacts) (lawful : AreLawful text) where
  known_at : (pack : Name) (o : Option (List Fact)) → packs pack ≡ o → IsKnownAs answers pack o
  known_at pack o is = subst (λ p. IsKnownAs answers pack p) is (known pack)

  exact_at : (facts : List Fact) → Joins [] (facts_in text) facts → (fact : Fact) → Contains (facts_in text) fact → ListsAsKnown facts packs fact.place.pack → IsExactOf answers text fact.place.pack
  exact_at facts joined fact among lists =
      let own = lists.0 in
      let k = known_at fact.place.pack (Some own) lists.1 in
      elim k.4 [
        | inl told ↦ record { bytes = k.0; items = k.1; came = k.2; true_pack = k.3; exact = (exact_same text facts fact.place.pack k.1 own own joined lists.2 told k.3.pack.each).1 refl }
        | inr none ↦ absurd (none_contained fact (subst (λ (fs : List Fact). Contains fs fact) none.0 ((lists.2.each fact).1 (own_fact text facts joined fact among, refl))))
      ]

  fitting : (x : List ℕ) → IsIndexText x text → Fits text packs → IsFitting answers Kind.Index x
  fitting x reads f = (text, reads, λ fact among. exact_at f.facts f.joined fact among (f.each fact among))

  module _ (once : (a b : Answer) → Contains (answers.objects Kind.Pack) a → Contains (answers.objects Kind.Pack) b → a.name ≡ b.name → a ≡ b) where
    not_exact_at : (facts : List Fact) → Joins [] (facts_in text) facts → (pack : Name) → ListsOtherwise facts packs pack → IsExactOf answers text pack → ⊥
    not_exact_at facts joined pack (inl none) e = known_at pack None none e.bytes e.items e.came e.true_pack
    not_exact_at facts joined pack (inr (own, listed, is, are, differ)) e =
        let k = known_at pack (Some listed) is in
        let answer = once (record { name = pack; bytes = Some e.bytes }) (record { name = pack; bytes = Some k.0 }) e.came.among k.2.among refl in
        let some : Some e.bytes ≡ Some k.0 = ap (λ (a : Answer). a.bytes) answer in
        let bytes : e.bytes ≡ k.0 = cc (some) in
        let same : e.items ≡ k.1 = packs_one k.0 e.items k.1 (subst (λ b. IsPack b e.items) bytes e.true_pack.pack) k.3.pack in
        let exact : IsExactFor text pack k.1 = subst (λ items. IsExactFor text pack items) same e.exact in
        elim k.4 [
          | inl told ↦ differ ((exact_same text facts pack k.1 own listed joined are told k.3.pack.each).0 exact)
          | inr none ↦ not_exact text lawful pack k.0 k.1 k.3.pack none.1 exact
        ]

    misplaced : (x : List ℕ) → IsIndexText x text → Misfits text packs → IsMisplaced answers Kind.Index x
    misplaced x reads m = (text, reads, (m.fact, m.among, not_exact_at m.facts m.joined m.fact.place.pack m.otherwise))

pub fits_as_found : FitsAsFound
fits_as_found answers packs x text known once reads =
    let lawful = index_texts_lawful x text reads in
    (fitting answers packs known text lawful x reads, misplaced answers packs known text lawful once x reads)
