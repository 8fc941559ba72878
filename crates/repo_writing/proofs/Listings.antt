-- How a sealed pack is listed.
use Rattle.std.proofs.Common.{arith, ◌≡◌, ◌+◌, ◌∷◌, [], ℕ, zero, suc, List, length, map, slice_get, Option, Some, refl, sym, ap, subst, ◌∙◌}
use Rattle.std.specs.List.{All, sum_by}
use Rattle.std.proofs.lemmas.List.{length-map}
use Rattle.std.proofs.lemmas.List.Elements.{All-nil, All-cons, All-head, All-tail}
use Rattle.std.proofs.lemmas.List.Sums.{sum_by-cons}
use Rattle.std.proofs.lemmas.Option.{same_Some}
use Rattle.repo_name.specs.declared.names.Name.{Name}
use Rattle.repo_pack.specs.PackLayout.{Item, IsWithin, offset_of}
use Rattle.repo_pack.specs.PackWriting.{placed_row, row_of, ArePlaced}
use Rattle.repo_pack.specs.declared.places.PlacedBlob.{PlacedBlob}
use Rattle.repo_pack.specs.declared.writers.Sealed.{Sealed}
use Rattle.repo_index.specs.declared.facts.Fact.{Fact}
use Rattle.repo_index.specs.declared.facts.PackFacts.{PackFacts}
use Rattle.repo_index.specs.Exactness.{fact_in, AreFactsAt}
use Rattle.repo_writing.specs.Sealing.{IsSealedOf, IsListedAs}
use Rattle.repo_writing.specs.Writing.{bytes_of}

-- the image of what stands at an index
map_get : {A B : Type 0} (f : A → B) (xs : List A) (k : ℕ) (x : A) → slice_get xs k ≡ Some x → slice_get (map f xs) k ≡ Some (f x)
map_get f [] k x h = absurd (cc)
map_get f (y ∷ xs) zero x h = ap (λ z. Some (f z)) (same_Some y x h)
map_get f (y ∷ xs) (suc k) x h = map_get f xs k x h

-- the facts of placed blobs are those of the items
facts_placed : (pack : Name) (items : List Item) (placed : List PlacedBlob) → ArePlaced pack items placed → AreFactsAt pack items (map fact_in placed)
facts_placed pack items placed h = record {
  count = length-map placed fact_in ∙ h.count;
  each = λ k item is. map_get fact_in placed k (placed_row pack (offset_of items k) (row_of item)) (h.each k item is);
}

facts_within : (placed : List PlacedBlob) → All (λ (b : PlacedBlob). IsWithin b.place.offset b.place.length) placed
    → All (λ (f : Fact). IsWithin f.place.offset f.place.length) (map fact_in placed)
facts_within [] h = All-nil (λ (f : Fact). IsWithin f.place.offset f.place.length)
facts_within (b ∷ placed) h =
    let W : PlacedBlob → Type 0 = λ b. IsWithin b.place.offset b.place.length in
    All-cons (λ (f : Fact). IsWithin f.place.offset f.place.length) (fact_in b) (map fact_in placed) (All-head W b placed h) (facts_within placed (All-tail W b placed h))

-- so a sealed pack is listed with exactly its items
pub listed_so : (there : Option Sealed) (items : List Item) (sealed : Sealed) (listed : PackFacts) → there ≡ Some sealed → IsSealedOf sealed items → listed.pack ≡ sealed.name
    → listed.facts ≡ map fact_in sealed.blobs.items → IsListedAs there items sealed listed
listed_so there items sealed listed is h same facts = record {
  is = is;
  holds = h;
  same = same;
  exact = subst (AreFactsAt sealed.name items) (sym facts) (facts_placed sealed.name items sealed.blobs.items h.placed);
  within = subst (All (λ (f : Fact). IsWithin f.place.offset f.place.length)) (sym facts) (facts_within sealed.blobs.items h.within);
}

-- ---- the bytes of placed blobs

lengths_same : (placed : List PlacedBlob) (items : List Item) → length placed ≡ length items
    → ((k : ℕ) (item : Item) → slice_get items k ≡ Some item → (blob : PlacedBlob) × (slice_get placed k ≡ Some blob) × (blob.place.length ≡ length item.bytes))
    → sum_by (λ (b : PlacedBlob). b.place.length) placed ≡ bytes_of items
lengths_same [] [] n each = refl
lengths_same [] (item ∷ items) n each = absurd (omega (arith, n))
lengths_same (blob ∷ placed) [] n each = absurd (omega (arith, n))
lengths_same (blob ∷ placed) (item ∷ items) n each =
    let here = each 0 item refl in
    let first : blob ≡ here.0 = same_Some blob here.0 here.1 in
    let same : blob.place.length ≡ length item.bytes = ap (λ (b : PlacedBlob). b.place.length) first ∙ here.2 in
    let more = lengths_same placed items (omega (arith, n)) (λ k i q. each (suc k) i q) in
    sum_by-cons (λ (b : PlacedBlob). b.place.length) blob placed ∙ (λ j. same j + more j) ∙ sym (sum_by-cons (λ (i : Item). length i.bytes) item items)

pub placed_sum : (name : Name) (items : List Item) (placed : List PlacedBlob) → ArePlaced name items placed → sum_by (λ (b : PlacedBlob). b.place.length) placed ≡ bytes_of items
placed_sum name items placed h = lengths_same placed items h.count (λ k item q. (placed_row name (offset_of items k) (row_of item), h.each k item q, refl))
