use Rattle.std.specs.Prelude.{◌≡◌, ◌≤◌, ◌+◌, ◌++◌, ◌∷◌, ℕ, List, length, take, slice_get, Some}
use Rattle.std.specs.Int.{w32, to_le_bytes}
use Rattle.std.specs.List.{All, flat_map, sum_by}
use Rattle.repo_name.specs.declared.names.Name.{Name}
use Rattle.repo_name.specs.declared.kinds.BlobKind.{BlobKind}
use Rattle.repo_name.specs.declared.kinds.BlobKind.TheVariants.{Content, Tree}
use Rattle.repo_name.specs.Naming as naming
use Rattle.repo_name.specs.Ranges.{range}
use Rattle.repo_name.specs.Limits.{blob_limit, blobs_limit, contents_limit}

-- a blob as a pack holds it: its kind, its name and its bytes
pub record Item : Type 0 where
  pub kind : BlobKind
  pub name : Name
  pub bytes : List ℕ

-- a blob under its own name
abbrev pub item_of : BlobKind → List ℕ → Item
item_of kind bytes = record { kind = kind; name = naming.name bytes; bytes = bytes }

-- a blob has 1 to 8,388,608 bytes
abbrev pub IsBlobLength : ℕ → Type 0
IsBlobLength n = (1 ≤ n) × (n ≤ blob_limit)

-- a blob ends within the first 25,165,823 bytes of its pack, as every blob of a pack that is written does
pub record IsWithin (offset size : ℕ) : Type 0 where
  pub blob : IsBlobLength size
  pub ends : offset + size ≤ contents_limit

-- what a pack can hold: a blob under a name of 32 bytes
abbrev pub IsItem : Item → Type 0
IsItem item = IsBlobLength (length item.bytes) × naming.IsName item.name

-- the item's name is that of its bytes
abbrev pub IsNamed : Item → Type 0
IsNamed item = item.name ≡ naming.name item.bytes

-- the number of a kind
abbrev pub kind_number : BlobKind → ℕ
kind_number Content = 0
kind_number Tree = 1

-- an entry of 37 bytes: a kind, a length in four bytes, the lowest first, and a name
abbrev pub entry_bytes : BlobKind → ℕ → Name → List ℕ
entry_bytes kind len name = kind_number kind ∷ to_le_bytes w32 len ++ name.0

-- the items' bytes, one after another
abbrev pub blobs_of : List Item → List ℕ
blobs_of items = flat_map (λ item. item.bytes) items

-- the items' entries, one after another
abbrev pub header_of : List Item → List ℕ
header_of items = flat_map (λ item. entry_bytes item.kind (length item.bytes) item.name) items

-- a pack: the items' bytes, their entries, and the length of these entries in four bytes
abbrev pub pack_bytes : List Item → List ℕ
pack_bytes items = blobs_of items ++ header_of items ++ to_le_bytes w32 (length (header_of items))

-- the bytes are the pack of these items, of which there are 1 to 4,096
pub record IsPack (bytes : List ℕ) (items : List Item) : Type 0 where
  pub count : (1 ≤ length items) × (length items ≤ blobs_limit)
  pub each : All IsItem items
  pub layout : bytes ≡ pack_bytes items

-- the same, and each name is that of its bytes
pub record IsTruePack (bytes : List ℕ) (items : List Item) : Type 0 where
  pub pack : IsPack bytes items
  pub named : All IsNamed items

-- where the blob at a place begins: the sum of the lengths before it
abbrev pub offset_of : List Item → ℕ → ℕ
offset_of items place = sum_by (λ item. length item.bytes) (take place items)

-- some bytes are the pack of one list of items at most
abbrev pub PacksAreOne : Type 0
PacksAreOne = (bytes : List ℕ) (a b : List Item) → IsPack bytes a → IsPack bytes b → a ≡ b

-- the bytes at an item's offset and length are the item's
abbrev pub RangesAreItems : Type 0
RangesAreItems = (bytes : List ℕ) (items : List Item) (place : ℕ) (item : Item)
    → IsPack bytes items → slice_get items place ≡ Some item → range bytes (offset_of items place) (length item.bytes) ≡ Some item.bytes
