-- What is at fault is no index.
use Rattle.std.proofs.Common.{◌≡◌, ◌≢◌, ℕ, List, codes, None, option_and_then, refl, ap, sym, subst, inl, inr}
use Rattle.serde_json.specs.Data.{Data, Items}
use Rattle.serde_json.specs.Find.{as_array}
use Rattle.repo_name.specs.declared.names.Name.{Name}
use Rattle.repo_pack.specs.PackLayout.{IsWithin}
use Rattle.repo_json.specs.JsonText.{IsJson, items_at}
use Rattle.repo_json.specs.Listing.{AreAll}
use Rattle.repo_index.specs.IndexText.{BlobSays, PackLists, IsNameText, HasSuperseded, IndexLists, IsIndexText}
use Rattle.repo_index.specs.IndexFaults.{BlobFault, PackFault, NameFault, SupersededFault, RootFault, IndexFault, index_error}
use Rattle.repo_json.specs.JsonNames.{IsId, NamesNothing}
use Rattle.repo_json.specs.declared.parsing.JsonError.{JsonError}
use Rattle.repo_json.specs.declared.parsing.JsonError.TheVariants as json
use Rattle.repo_index.specs.declared.facts.Fact.{Fact}
use Rattle.repo_index.specs.declared.facts.PackFacts.{PackFacts}
use Rattle.repo_index.specs.declared.faults.IndexError.{IndexError}
use Rattle.repo_index.specs.declared.faults.IndexError.TheVariants as fault
use Rattle.repo_json.proofs.NameLemmas.{id_one}
use Rattle.repo_json.proofs.ListingLemmas.{listed_here}

nothing_named : (x y : List ℕ) (n : Name) → x ≡ y → NamesNothing x → IsId y n → ⊥
nothing_named x y n same none is = none n (subst (λ (t : List ℕ). IsId t n) (sym same) is)

-- a blob at fault says no fact
blob_faulty : (pack : Name) (e : IndexError) (d : Data) → BlobFault e d → (f : Fact) → BlobSays pack d f → ⊥
blob_faulty pack fault.Json d h f is = h
blob_faulty pack fault.Shape d h f is = h is.id f.place.length f.place.offset f.kind is.members
blob_faulty pack fault.Name d h f is =
    let ids : h.0 ≡ is.id = cc (h.4.id_is, is.members.id_is) in
    nothing_named h.0 is.id f.name ids h.5 is.named
blob_faulty pack fault.Range d h f is =
    let lengths : f.place.length ≡ h.1 = cc (h.5.length_is, is.members.length_is) in
    let offsets : f.place.offset ≡ h.2 = cc (h.5.offset_is, is.members.offset_is) in
    h.7 (subst (λ (l : ℕ). IsWithin h.2 l) lengths (subst (λ (o : ℕ). IsWithin o f.place.length) offsets is.within))
blob_faulty pack fault.Memory d h f is = h

-- a pack at fault lists nothing
pack_faulty : (e : IndexError) (d : Data) → PackFault e d → (p : PackFacts) → PackLists d p → ⊥
pack_faulty e d (inl h) p is = h.1 is.id is.blobs is.members
pack_faulty e d (inr (inl h)) p is =
    let ids : h.1 ≡ is.id = cc (h.3.id_is, is.members.id_is) in
    nothing_named h.1 is.id p.pack ids h.4 is.named
pack_faulty e d (inr (inr h)) p is =
    let ids : is.id ≡ h.0 = cc (h.3.id_is, is.members.id_is) in
    let blobs : is.blobs ≡ h.1 = cc (h.3.blobs_are, is.members.blobs_are) in
    let packs = id_one is.id h.0 p.pack h.2 ids is.named h.4 in
    let all = subst (λ (n : Name). AreAll (BlobSays n) h.1 p.facts) packs (subst (λ (i : Items). AreAll (BlobSays p.pack) i p.facts) blobs is.facts_are) in
    let k = listed_here (BlobSays h.2) h.1 h.5.before h.5.here h.5.rest p.facts h.5.begins all in
    blob_faulty h.2 e h.5.here h.5.fault k.0 k.1

name_faulty : (e : IndexError) (d : Data) → NameFault e d → (n : Name) → IsNameText d n → ⊥
name_faulty fault.Json d h n is = h
name_faulty fault.Shape d h n is = cc (h, is.1)
name_faulty fault.Name d h n is =
    let ids : h.0 ≡ is.0 = cc (h.1, is.1) in
    nothing_named h.0 is.0 n ids h.2 is.2
name_faulty fault.Range d h n is = h
name_faulty fault.Memory d h n is = h

superseded_faulty : (e : IndexError) (d : Data) → SupersededFault e d → HasSuperseded d → ⊥
superseded_faulty e d (inl h) (inl none) = h.1 none
superseded_faulty e d (inl h) (inr is) = cc (h.2, is.2)
superseded_faulty e d (inr h) (inl none) =
    let no : items_at (codes "supersedes") d ≡ None = ap (option_and_then as_array) none in
    cc (no, h.1)
superseded_faulty e d (inr h) (inr is) =
    let same : is.0 ≡ h.0 = cc (is.2, h.1) in
    let all = subst (λ (i : Items). AreAll IsNameText i is.1) same is.3 in
    let k = listed_here IsNameText h.0 h.2.before h.2.here h.2.rest is.1 h.2.begins all in
    name_faulty e h.2.here h.2.fault k.0 k.1

-- a value at fault is no index
root_faulty : (e : IndexError) (d : Data) → RootFault e d → (packs : List PackFacts) → IndexLists d packs → ⊥
root_faulty e d (inl h) packs is = cc (h.1, is.listed)
root_faulty e d (inr (inl h)) packs is =
    let same : is.items ≡ h.0 = cc (is.listed, h.1) in
    let all = subst (λ (i : Items). AreAll PackLists i packs) same is.packs_are in
    let k = listed_here PackLists h.0 h.2.before h.2.here h.2.rest packs h.2.begins all in
    pack_faulty e h.2.here h.2.fault k.0 k.1
root_faulty e d (inr (inr h)) packs is = superseded_faulty e d h.4 is.superseded

read_faulty : (bytes : List ℕ) (d : Data) (e : IndexError) → IsJson bytes d → RootFault e d → (packs : List PackFacts) → IsIndexText bytes packs → ⊥
read_faulty bytes d e json h packs text =
    let same : text.root ≡ d = cc (text.json.reads, json.reads) in
    root_faulty e d h packs (subst (λ (r : Data). IndexLists r packs) same text.index)

-- bytes at fault are no index
pub faulty_text : (bytes : List ℕ) (e : IndexError) → IndexFault e bytes → e ≢ fault.Memory → (packs : List PackFacts) → ¬ IsIndexText bytes packs
faulty_text bytes fault.Json h other packs text = h text.root text.json
faulty_text bytes fault.Shape h other packs text = read_faulty bytes h.0 fault.Shape h.1 h.2 packs text
faulty_text bytes fault.Name h other packs text = read_faulty bytes h.0 fault.Name h.1 h.2 packs text
faulty_text bytes fault.Range h other packs text = read_faulty bytes h.0 fault.Range h.1 h.2 packs text
faulty_text bytes fault.Memory h other packs text = other refl

-- ---- no value is at fault as bytes that are no JSON are

pack_is_json : (d : Data) → PackFault fault.Json d → ⊥
pack_is_json d (inl h) = absurd (let e = h.0 in cc e)
pack_is_json d (inr (inl h)) = absurd (let e = h.0 in cc e)
pack_is_json d (inr (inr h)) = h.5.fault

superseded_is_json : (d : Data) → SupersededFault fault.Json d → ⊥
superseded_is_json d (inl h) = absurd (let e = h.0 in cc e)
superseded_is_json d (inr h) = h.2.fault

root_is_json : (d : Data) → RootFault fault.Json d → ⊥
root_is_json d (inl h) = absurd (let e = h.0 in cc e)
root_is_json d (inr (inl h)) = pack_is_json h.2.here h.2.fault
root_is_json d (inr (inr h)) = superseded_is_json d h.4

-- what is told of a value that bytes read as is told of the bytes
pub told_fault : (bytes : List ℕ) (d : Data) (e : IndexError) → IsJson bytes d → (e ≢ fault.Memory → RootFault e d) → IndexFault e bytes
told_fault bytes d fault.Json json h = absurd (root_is_json d (h (λ e. cc)))
told_fault bytes d fault.Shape json h = (d, json, h (λ e. cc))
told_fault bytes d fault.Name json h = (d, json, h (λ e. cc))
told_fault bytes d fault.Range json h = (d, json, h (λ e. cc))
told_fault bytes d fault.Memory json h = tt

-- what is told where no value is read
pub unread_fault : (bytes : List ℕ) (e : JsonError) → (e ≢ json.Memory → (d : Data) → ¬ IsJson bytes d) → IndexFault (index_error e) bytes
unread_fault bytes json.Json none = none (λ e. cc)
unread_fault bytes json.Memory none = tt
