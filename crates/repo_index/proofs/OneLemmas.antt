-- A text is that of one index.
use Rattle.std.proofs.Common.{◌≡◌, ◌∷◌, [], ℕ, List, slice_index, ap, refl, sym, subst, arith}
use Rattle.std.specs.List.{All}
use Rattle.std.proofs.lemmas.List.Elements.{All-nil, All-cons}
use Rattle.serde_json.specs.Data.{Data, Items, no_items, item}
use Rattle.repo_name.specs.declared.names.Name.{Name}
use Rattle.repo_name.specs.declared.kinds.BlobKind.{BlobKind}
use Rattle.repo_name.specs.declared.kinds.BlobKind.TheVariants.{Content, Tree}
use Rattle.repo_pack.specs.PackLayout.{IsWithin}
use Rattle.repo_json.specs.Listing.{AreAll}
use Rattle.repo_index.specs.IndexText.{type_text, BlobSays, PackLists, IndexLists, IsIndexText}
use Rattle.repo_index.specs.IndexWriting.{AreLawful}
use Rattle.repo_index.specs.declared.facts.Fact.{Fact}
use Rattle.repo_index.specs.declared.facts.PackFacts.{PackFacts}
use Rattle.repo_json.proofs.NameLemmas.{id_one}

-- items are those of one list
lists_one : {X : Type 0} (Is : Data → X → Type 0) → ((d : Data) (x y : X) → Is d x → Is d y → x ≡ y) → (items : Items) (xs ys : List X)
    → AreAll Is items xs → AreAll Is items ys → xs ≡ ys
lists_one Is one items [] [] h g = refl
lists_one Is one no_items [] (y ∷ ys) h g = absurd g
lists_one Is one (item d items) [] (y ∷ ys) h g = cc
lists_one Is one no_items (x ∷ xs) ys h g = absurd h
lists_one Is one (item d items) (x ∷ xs) [] h g = cc
lists_one Is one (item d items) (x ∷ xs) (y ∷ ys) h g =
    let first = one d x y h.0 g.0 in
    let rest = lists_one Is one items xs ys h.1 g.1 in
    cc

types_differ : type_text Content ≡ type_text Tree → ⊥
types_differ h = let e : 100 ≡ 116 = ap (λ t. slice_index t 0) h in absurd (omega (arith, e))

types_one : (a b : BlobKind) → type_text a ≡ type_text b → a ≡ b
types_one Content Content h = refl
types_one Content Tree h = absurd (types_differ h)
types_one Tree Content h = absurd (types_differ (sym h))
types_one Tree Tree h = refl

facts_one : (pack : Name) (d : Data) (a b : Fact) → BlobSays pack d a → BlobSays pack d b → a ≡ b
facts_one pack d a b h g =
    let ids : h.id ≡ g.id = cc (h.members.id_is, g.members.id_is) in
    let names = id_one h.id g.id a.name b.name ids h.named g.named in
    let texts : type_text a.kind ≡ type_text b.kind = cc (h.members.type_is, g.members.type_is) in
    let kinds = types_one a.kind b.kind texts in
    let packs : a.place.pack ≡ b.place.pack = cc (h.here, g.here) in
    let offsets : a.place.offset ≡ b.place.offset = cc (h.members.offset_is, g.members.offset_is) in
    let lengths : a.place.length ≡ b.place.length = cc (h.members.length_is, g.members.length_is) in
    λ i. record { kind = kinds i; name = names i; place = record { pack = packs i; offset = offsets i; length = lengths i } }

packs_one : (d : Data) (a b : PackFacts) → PackLists d a → PackLists d b → a ≡ b
packs_one d a b h g =
    let ids : h.id ≡ g.id = cc (h.members.id_is, g.members.id_is) in
    let names = id_one h.id g.id a.pack b.pack ids h.named g.named in
    let blobs : g.blobs ≡ h.blobs = cc (h.members.blobs_are, g.members.blobs_are) in
    let all = subst (λ (n : Name). AreAll (BlobSays n) h.blobs b.facts) (sym names) (subst (λ (i : Items). AreAll (BlobSays b.pack) i b.facts) blobs g.facts_are) in
    let facts = lists_one (BlobSays a.pack) (facts_one a.pack) h.blobs a.facts b.facts h.facts_are all in
    λ i. record { pack = names i; facts = facts i }

pub index_texts_one : (bytes : List ℕ) (a b : List PackFacts) → IsIndexText bytes a → IsIndexText bytes b → a ≡ b
index_texts_one bytes a b h g =
    let roots : g.root ≡ h.root = cc (h.json.reads, g.json.reads) in
    let k : IndexLists h.root b = subst (λ (d : Data). IndexLists d b) roots g.index in
    let items : k.items ≡ h.index.items = cc (k.listed, h.index.listed) in
    lists_one PackLists packs_one h.index.items a b h.index.packs_are (subst (λ (i : Items). AreAll PackLists i b) items k.packs_are)

-- what holds of each element that an item may be that of, holds of all
all_of : {X : Type 0} (Is : Data → X → Type 0) (P : X → Type 0) → ((d : Data) (x : X) → Is d x → P x) → (items : Items) (xs : List X)
    → AreAll Is items xs → All P xs
all_of Is P each items [] h = All-nil P
all_of Is P each no_items (x ∷ xs) h = absurd h
all_of Is P each (item d items) (x ∷ xs) h = All-cons P x xs (each d x h.0) (all_of Is P each items xs h.1)

pub index_texts_lawful : (bytes : List ℕ) (packs : List PackFacts) → IsIndexText bytes packs → AreLawful packs
index_texts_lawful bytes packs h =
    all_of PackLists (λ p. All (λ f. (f.place.pack ≡ p.pack) × IsWithin f.place.offset f.place.length) p.facts)
    (λ d p listed. all_of (BlobSays p.pack) (λ f. (f.place.pack ≡ p.pack) × IsWithin f.place.offset f.place.length)
    (λ e f says. (says.here, says.within)) listed.blobs p.facts listed.facts_are)
    h.index.items packs h.index.packs_are
