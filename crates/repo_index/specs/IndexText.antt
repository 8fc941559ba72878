-- The text of an index, and what it gives.
use Rattle.std.specs.Prelude.{◌≡◌, ◌<◌, ◌^◌, ◌⊎◌, ℕ, List, codes, Some, None, Contains}
use Rattle.std.specs.List.{flat_map}
use Rattle.serde_json.specs.Data.{Data, Items}
use Rattle.serde_json.specs.Find.{get, as_str}
use Rattle.repo_name.specs.Naming.{IsName}
use Rattle.repo_name.specs.declared.names.Name.{Name}
use Rattle.repo_name.specs.declared.kinds.BlobKind.{BlobKind}
use Rattle.repo_name.specs.declared.kinds.BlobKind.TheVariants.{Content, Tree}
use Rattle.repo_pack.specs.PackLayout.{IsWithin}
use Rattle.repo_pack.specs.declared.places.Place.{Place}
use Rattle.repo_json.specs.JsonNames.{IsId}
use Rattle.repo_json.specs.JsonText.{IsJson, number_at, text_at, items_at}
use Rattle.repo_json.specs.Listing.{AreAll}
use Rattle.repo_index.specs.declared.facts.Fact.{Fact}
use Rattle.repo_index.specs.declared.facts.PackFacts.{PackFacts}

-- that a blob of this kind and name lies at this place
abbrev pub fact_of : BlobKind → Name → Place → Fact
fact_of kind name place = record { kind = kind; name = name; place = place }

-- a place as programs make them: a name of 32 bytes, numbers of 32 bits
pub record IsPlace (place : Place) : Type 0 where
  pub pack : IsName place.pack
  pub offset : place.offset < 2 ^ 32
  pub length : place.length < 2 ^ 32

-- a fact as programs make them
pub record IsFact (fact : Fact) : Type 0 where
  pub name : IsName fact.name
  pub place : IsPlace fact.place

-- what a blob's `type` is
abbrev pub type_text : BlobKind → List ℕ
type_text Content = codes "data"
type_text Tree = codes "tree"

-- the members of a blob's object; what other members it has is of no account
pub record HasBlob (d : Data) (id : List ℕ) (length offset : ℕ) (kind : BlobKind) : Type 0 where
  pub id_is : text_at (codes "id") d ≡ Some id
  pub length_is : number_at (codes "length") d ≡ Some length
  pub offset_is : number_at (codes "offset") d ≡ Some offset
  pub type_is : text_at (codes "type") d ≡ Some (type_text kind)

-- the object of a blob of this pack says this fact
pub record BlobSays (pack : Name) (d : Data) (fact : Fact) : Type 0 where
  pub id : List ℕ
  pub members : HasBlob d id fact.place.length fact.place.offset fact.kind
  pub named : IsId id fact.name
  pub within : IsWithin fact.place.offset fact.place.length
  pub here : fact.place.pack ≡ pack

-- the members of a pack's object
pub record HasPack (d : Data) (id : List ℕ) (blobs : Items) : Type 0 where
  pub blobs_are : items_at (codes "blobs") d ≡ Some blobs
  pub id_is : text_at (codes "id") d ≡ Some id

-- the object of a pack lists these facts of it
pub record PackLists (d : Data) (listed : PackFacts) : Type 0 where
  pub id : List ℕ
  pub blobs : Items
  pub members : HasPack d id blobs
  pub named : IsId id listed.pack
  pub facts_are : AreAll (BlobSays listed.pack) blobs listed.facts

-- the item is a name's text
abbrev pub IsNameText : Data → Name → Type 0
IsNameText d name = (id : List ℕ) × (as_str d ≡ Some id) × IsId id name

-- what the index supersedes: it doesn't say, or it lists names, which are of no account
abbrev pub HasSuperseded : Data → Type 0
HasSuperseded d = (get (codes "supersedes") d ≡ None)
    ⊎ ((items : Items) × (names : List Name) × (items_at (codes "supersedes") d ≡ Some items) × AreAll IsNameText items names)

-- the object of an index: its list `packs` is that of these packs
pub record IndexLists (d : Data) (packs : List PackFacts) : Type 0 where
  pub items : Items
  pub listed : items_at (codes "packs") d ≡ Some items
  pub packs_are : AreAll PackLists items packs
  pub superseded : HasSuperseded d

-- The text of an index: JSON that reads as the object of these packs with their facts, in the text's order.
pub record IsIndexText (bytes : List ℕ) (packs : List PackFacts) : Type 0 where
  pub root : Data
  pub json : IsJson bytes root
  pub index : IndexLists root packs

-- the facts of an index, in the text's order
abbrev pub facts_in : List PackFacts → List Fact
facts_in packs = flat_map (λ p. p.facts) packs

-- the index gives a pair of kind and name at a place
abbrev pub Gives : List PackFacts → BlobKind → Name → Place → Type 0
Gives packs kind name place = Contains (facts_in packs) (fact_of kind name place)

-- the bytes are an index that has this fact
pub record Says (bytes : List ℕ) (fact : Fact) : Type 0 where
  pub packs : List PackFacts
  pub text : IsIndexText bytes packs
  pub among : Contains (facts_in packs) fact
