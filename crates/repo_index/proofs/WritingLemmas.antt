-- What is written of an index reads as the index.
use Rattle.std.proofs.Common.{◌≡◌, ◌<◌, ◌≤◌, ◌+◌, ◌∷◌, ◌++◌, [], ℕ, List, length, take, get_or, Some, false, refl, ap, ◌∙◌, sym, arith, inr, All}
use Rattle.std.specs.Prelude.{IsUtf8}
use Rattle.std.proofs.lemmas.List.{take_more}
use Rattle.std.proofs.lemmas.List.Elements.{All-head, All-tail, All-push, All-same}
use Rattle.serde_json.specs.Data.{Data, Items, no_items, item, depth, items_depth}
use Rattle.serde_json.specs.Read.{read}
use Rattle.serde_json.specs.View.{view, items_view}
use Rattle.serde_json.specs.Written.{has_float, items_have_float, compact_text}
use Rattle.serde_json.specs.declared.value.Value.{Value}
use Rattle.repo_name.specs.Naming.{hex_of, IsName}
use Rattle.repo_name.specs.declared.names.Name.{Name}
use Rattle.repo_pack.specs.PackLayout.{IsWithin}
use Rattle.repo_json.specs.Listing.{AreAll}
use Rattle.repo_index.specs.IndexText.{IsFact, BlobSays, PackLists, IsIndexText}
use Rattle.repo_index.specs.IndexWriting.{fact_data, fact_items, pack_data, pack_items, index_data, index_text, AreLawful, ArePacks}
use Rattle.repo_index.specs.declared.facts.Fact.{Fact}
use Rattle.repo_index.specs.declared.facts.PackFacts.{PackFacts}

-- ---- lists that grow at their end

-- one item more
abbrev pub items_push : Items → Data → Items
items_push no_items d = item d no_items
items_push (item e ds) d = item e (items_push ds d)

items_view_push : (vs : List Value) (v : Value) → items_view (vs ++ v ∷ []) ≡ items_push (items_view vs) (view v)
items_view_push [] v = refl
items_view_push (w ∷ vs) v = ap (item (view w)) (items_view_push vs v)

fact_items_push : (fs : List Fact) (f : Fact) → fact_items (fs ++ f ∷ []) ≡ items_push (fact_items fs) (fact_data f)
fact_items_push [] f = refl
fact_items_push (g ∷ fs) f = ap (item (fact_data g)) (fact_items_push fs f)

pack_items_push : (ps : List PackFacts) (p : PackFacts) → pack_items (ps ++ p ∷ []) ≡ items_push (pack_items ps) (pack_data p)
pack_items_push [] p = refl
pack_items_push (q ∷ ps) p = ap (item (pack_data q)) (pack_items_push ps p)

-- a fact more
pub facts_grow : (vs : List Value) (v : Value) (facts : List Fact) (i : ℕ) (d : Fact) → i < length facts
    → items_view vs ≡ fact_items (take i facts) → view v ≡ fact_data (get_or facts i d)
    → items_view (vs ++ v ∷ []) ≡ fact_items (take (i + 1) facts)
facts_grow vs v facts i d lt same is =
    items_view_push vs v ∙ ap (λ ds. items_push ds (view v)) same ∙ ap (items_push (fact_items (take i facts))) is
    ∙ sym (fact_items_push (take i facts) (get_or facts i d)) ∙ ap fact_items (sym (take_more facts i d lt))

-- a pack more
pub packs_grow : (vs : List Value) (v : Value) (packs : List PackFacts) (i : ℕ) (p : PackFacts) → i < length packs → p ≡ get_or packs i p
    → items_view vs ≡ pack_items (take i packs) → view v ≡ pack_data p
    → items_view (vs ++ v ∷ []) ≡ pack_items (take (i + 1) packs)
packs_grow vs v packs i p lt at same is =
    items_view_push vs v ∙ ap (λ ds. items_push ds (view v)) same ∙ ap (items_push (pack_items (take i packs))) is
    ∙ sym (pack_items_push (take i packs) p) ∙ ap (λ q. pack_items (take i packs ++ q ∷ [])) at ∙ ap pack_items (sym (take_more packs i p lt))

pub are_packs_grow : (packs : List PackFacts) (i : ℕ) (p : PackFacts) → i < length packs → p ≡ get_or packs i p
    → ArePacks (take i packs) → IsName p.pack × All IsFact p.facts → ArePacks (take (i + 1) packs)
are_packs_grow packs i p lt at all is =
    All-same (λ (q : PackFacts). IsName q.pack × All IsFact q.facts) (take (i + 1) packs) (take i packs ++ p ∷ [])
    (take_more packs i p lt ∙ ap (λ q. take i packs ++ q ∷ []) (sym at))
    (All-push (λ (q : PackFacts). IsName q.pack × All IsFact q.facts) (take i packs) p all is)

-- ---- the written value

facts_float : (fs : List Fact) → items_have_float (fact_items fs) ≡ false
facts_float [] = refl
facts_float (f ∷ fs) = facts_float fs

packs_float : (ps : List PackFacts) → items_have_float (pack_items ps) ≡ false
packs_float [] = refl
packs_float (p ∷ ps) = rw (facts_float p.facts) (packs_float ps)

pub index_float : (packs : List PackFacts) → has_float (index_data packs) ≡ false
index_float packs = rw (packs_float packs)

facts_depth : (fs : List Fact) → items_depth (fact_items fs) ≤ 1
facts_depth [] = omega arith
facts_depth (f ∷ fs) = omega (arith, facts_depth fs)

packs_depth : (ps : List PackFacts) → items_depth (pack_items ps) ≤ 3
packs_depth [] = omega arith
packs_depth (p ∷ ps) = omega (arith, facts_depth p.facts, packs_depth ps)

pub index_depth : (packs : List PackFacts) → depth (index_data packs) ≤ 127
index_depth packs = omega (arith, packs_depth packs)

-- the object of a blob says its fact
fact_reads : (pack : Name) (f : Fact) → IsFact f → f.place.pack ≡ pack → IsWithin f.place.offset f.place.length → BlobSays pack (fact_data f) f
fact_reads pack f is here within = record {
  id = hex_of f.name;
  members = record { id_is = refl; length_is = refl; offset_is = refl; type_is = refl };
  named = (is.name, refl);
  within = within;
  here = here;
}

facts_read : (pack : Name) (fs : List Fact) → All IsFact fs → All (λ f. (f.place.pack ≡ pack) × IsWithin f.place.offset f.place.length) fs
    → AreAll (BlobSays pack) (fact_items fs) fs
facts_read pack [] made lawful = refl
facts_read pack (f ∷ fs) made lawful =
    let P : Fact → Type 0 = λ g. (g.place.pack ≡ pack) × IsWithin g.place.offset g.place.length in
    let first : P f = All-head P f fs lawful in (
      fact_reads pack f (All-head IsFact f fs made) first.0 first.1,
      facts_read pack fs (All-tail IsFact f fs made) (All-tail P f fs lawful),
    )

packs_read : (ps : List PackFacts) → ArePacks ps → AreLawful ps → AreAll PackLists (pack_items ps) ps
packs_read [] made lawful = refl
packs_read (p ∷ ps) made lawful =
    let M : PackFacts → Type 0 = λ q. IsName q.pack × All IsFact q.facts in
    let L : PackFacts → Type 0 = λ q. All (λ f. (f.place.pack ≡ q.pack) × IsWithin f.place.offset f.place.length) q.facts in
    let first : M p = All-head M p ps made in (
      record {
        id = hex_of p.pack;
        blobs = fact_items p.facts;
        members = record { blobs_are = refl; id_is = refl };
        named = (first.0, refl);
        facts_are = facts_read p.pack p.facts first.1 (All-head L p ps lawful);
      },
      packs_read ps (All-tail M p ps made) (All-tail L p ps lawful),
    )

-- the written text is that of the index
pub index_reads : (packs : List PackFacts) (text : List ℕ) → ArePacks packs → AreLawful packs → IsUtf8 text → read text ≡ Some (index_data packs)
    → IsIndexText text packs
index_reads packs text made lawful utf8 reads = record {
  root = index_data packs;
  json = record { utf8 = utf8; reads = reads };
  index = record { items = pack_items packs; listed = refl; packs_are = packs_read packs made lawful; superseded = inr (no_items, [], refl, refl) };
}

-- what is written of the value is the written text
pub text_is : (d : Data) (text : List ℕ) (lent packs : List PackFacts) → lent ≡ packs → d ≡ index_data lent
    → (has_float d ≡ false → text ≡ compact_text d) → text ≡ index_text packs
text_is d text lent packs same value written =
    let is : d ≡ index_data packs = value ∙ ap index_data same in
    written (ap has_float is ∙ index_float packs) ∙ ap compact_text is
