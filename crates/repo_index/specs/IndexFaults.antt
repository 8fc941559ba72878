-- The first fault of bytes that are no index, in the order in which the text is read.
use Rattle.std.specs.Prelude.{◌≡◌, ◌≢◌, ◌⊎◌, ⊤, ℕ, List, codes, Some, None}
use Rattle.serde_json.specs.Data.{Data, Items}
use Rattle.serde_json.specs.Find.{get, as_str}
use Rattle.repo_name.specs.declared.names.Name.{Name}
use Rattle.repo_name.specs.declared.kinds.BlobKind.{BlobKind}
use Rattle.repo_pack.specs.PackLayout.{IsWithin}
use Rattle.repo_json.specs.JsonNames.{IsId, NamesNothing}
use Rattle.repo_json.specs.JsonText.{IsJson, items_at}
use Rattle.repo_json.specs.Listing.{AreAll, HasFault}
use Rattle.repo_json.specs.declared.parsing.JsonError.{JsonError}
use Rattle.repo_index.specs.IndexText.{HasBlob, BlobSays, HasPack, PackLists, IsNameText}
use Rattle.repo_index.specs.declared.faults.IndexError.{IndexError}
use Rattle.repo_index.specs.declared.faults.IndexError.TheVariants as fault
use Rattle.repo_index.specs.declared.facts.PackFacts.{PackFacts}

-- the first fault of a blob's object: a member is missing or of another type, its id is no name, it lies out of range
abbrev pub BlobFault : IndexError → Data → Type 0
BlobFault fault.Json d = ⊥
BlobFault fault.Shape d = (id : List ℕ) (length offset : ℕ) (kind : BlobKind) → ¬ HasBlob d id length offset kind
BlobFault fault.Name d = (id : List ℕ) × (length : ℕ) × (offset : ℕ) × (kind : BlobKind) × HasBlob d id length offset kind × NamesNothing id
BlobFault fault.Range d = (id : List ℕ) × (length : ℕ) × (offset : ℕ) × (kind : BlobKind) × (name : Name)
    × HasBlob d id length offset kind × IsId id name × ¬ IsWithin offset length
BlobFault fault.Memory d = ⊥

-- the first fault of a pack's object: a member is missing or of another type, its id is no name, one of its blobs is at fault
abbrev pub PackFault : IndexError → Data → Type 0
PackFault e d = ((e ≡ fault.Shape) × ((id : List ℕ) (blobs : Items) → ¬ HasPack d id blobs))
    ⊎ ((e ≡ fault.Name) × (id : List ℕ) × (blobs : Items) × HasPack d id blobs × NamesNothing id)
    ⊎ ((id : List ℕ) × (blobs : Items) × (name : Name) × HasPack d id blobs × IsId id name × HasFault (BlobSays name) (BlobFault e) blobs)

-- the first fault of an item that is to be a name's text
abbrev pub NameFault : IndexError → Data → Type 0
NameFault fault.Json d = ⊥
NameFault fault.Shape d = as_str d ≡ None
NameFault fault.Name d = (id : List ℕ) × (as_str d ≡ Some id) × NamesNothing id
NameFault fault.Range d = ⊥
NameFault fault.Memory d = ⊥

-- the first fault of what the index supersedes: it is no list, or an item of the list is no name
abbrev pub SupersededFault : IndexError → Data → Type 0
SupersededFault e d = ((e ≡ fault.Shape) × (get (codes "supersedes") d ≢ None) × (items_at (codes "supersedes") d ≡ None))
    ⊎ ((items : Items) × (items_at (codes "supersedes") d ≡ Some items) × HasFault IsNameText (NameFault e) items)

-- the first fault of a value that is no index: it has no list `packs`, a pack is at fault, or what it supersedes is
abbrev pub RootFault : IndexError → Data → Type 0
RootFault e d = ((e ≡ fault.Shape) × (items_at (codes "packs") d ≡ None))
    ⊎ ((items : Items) × (items_at (codes "packs") d ≡ Some items) × HasFault PackLists (PackFault e) items)
    ⊎ ((items : Items) × (packs : List PackFacts) × (items_at (codes "packs") d ≡ Some items) × AreAll PackLists items packs × SupersededFault e d)

-- The first fault of bytes that are no index. Without memory it isn't known whether they are one.
abbrev pub IndexFault : IndexError → List ℕ → Type 0
IndexFault fault.Json bytes = (d : Data) → ¬ IsJson bytes d
IndexFault fault.Shape bytes = (d : Data) × IsJson bytes d × RootFault fault.Shape d
IndexFault fault.Name bytes = (d : Data) × IsJson bytes d × RootFault fault.Name d
IndexFault fault.Range bytes = (d : Data) × IsJson bytes d × RootFault fault.Range d
IndexFault fault.Memory bytes = ⊤

-- what a fault of JSON is to an index
abbrev pub index_error : JsonError → IndexError
index_error JsonError.Json = IndexError.Json
index_error JsonError.Memory = IndexError.Memory
