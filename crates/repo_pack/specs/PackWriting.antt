use Rattle.std.specs.Prelude.{◌≡◌, ◌≤◌, ◌<◌, ◌+◌, ◌++◌, ◌∷◌, [], ◌⊎◌, ℕ, List, length, map, slice_get, Some}
use Rattle.std.specs.List.{All, flat_map}
use Rattle.std.specs.Int.{w32, to_le_bytes}
use Rattle.repo_name.specs.declared.names.Name.{Name}
use Rattle.repo_pack.specs.declared.rows.Row.{Row}
use Rattle.repo_pack.specs.declared.places.Place.{Place}
use Rattle.repo_pack.specs.declared.places.PlacedBlob.{PlacedBlob}
use Rattle.repo_pack.specs.declared.faults.PackError.{PackError}
use Rattle.repo_pack.specs.declared.faults.PackError.TheVariants as faults
use Rattle.repo_pack.specs.PackLayout.{Item, IsItem, IsNamed, entry_bytes, blobs_of, offset_of}
use Rattle.repo_name.specs.Limits.{blob_limit, blobs_limit, greatest_target, least_target}

-- a pack that is being written: the items added, in order, and the bytes to aim at
pub record Packing : Type 0 where
  pub items : List Item
  pub target : ℕ

-- the blobs' bytes reach the target, or there are 4,096 blobs
abbrev pub IsDue : Packing → Type 0
IsDue packing = (packing.target ≤ length (blobs_of packing.items)) ⊎ (blobs_limit ≤ length packing.items)

-- neither
abbrev pub IsOpen : Packing → Type 0
IsOpen packing = (length (blobs_of packing.items) < packing.target) × (length packing.items < blobs_limit)

-- the same with an item at its end
abbrev pub with_item : Packing → Item → Packing
with_item packing item = record { items = packing.items ++ item ∷ []; target = packing.target }

-- Why a blob of so many bytes isn't added: the first reason in this order.
abbrev pub IsRefusal : Packing → ℕ → PackError → Type 0
IsRefusal packing n faults.Closed = IsDue packing
IsRefusal packing n faults.TooLarge = IsOpen packing × (blob_limit < n)
IsRefusal packing n faults.Memory = IsOpen packing × (n ≤ blob_limit)
IsRefusal packing n faults.Short = ⊥
IsRefusal packing n faults.Empty = ⊥
IsRefusal packing n faults.HeaderLength = ⊥
IsRefusal packing n faults.BlobKind = ⊥
IsRefusal packing n faults.Lengths = ⊥

-- an item's entry: its kind, its name and its length
abbrev pub row_of : Item → Row
row_of item = record { kind = item.kind; name = item.name; length = length item.bytes }

-- entries, one after another
abbrev pub rows_bytes : List Row → List ℕ
rows_bytes rows = flat_map (λ row. entry_bytes row.kind row.length row.name) rows

-- what these entries end a pack with: they, one after another, and their length in four bytes
abbrev pub ending_of : List Row → List ℕ
ending_of rows = rows_bytes rows ++ to_le_bytes w32 (length (rows_bytes rows))

-- rows and bytes are those of these items, whose names are true, and within what the target allows
pub record IsFilled (rows : List Row) (blobs : List ℕ) (target : ℕ) (items : List Item) : Type 0 where
  pub bounds : (least_target ≤ target) × (target ≤ greatest_target)
  pub few : length items ≤ blobs_limit
  pub room : length blobs < target + blob_limit
  pub each : All IsItem items
  pub named : All IsNamed items
  pub rows_are : rows ≡ map row_of items
  pub blobs_are : blobs ≡ blobs_of items

-- a blob's entry, and where the blob lies that begins at this offset of a pack
abbrev pub placed_row : Name → ℕ → Row → PlacedBlob
placed_row pack offset row =
    record { kind = row.kind; name = row.name; place = record { pack = pack; offset = offset; length = row.length } }

-- where the blobs of these entries lie in a pack, the first of them at this offset
unfoldable pub placed_from : Name → ℕ → List Row → List PlacedBlob
placed_from pack offset [] = []
placed_from pack offset (row ∷ rows) = placed_row pack offset row ∷ placed_from pack (offset + row.length) rows

-- where an item lies that begins at this offset of a pack
abbrev pub place_of : Name → ℕ → Item → Place
place_of pack offset item = record { pack = pack; offset = offset; length = length item.bytes }

-- these are the items with their places in a pack, in the items' order
pub record ArePlaced (pack : Name) (items : List Item) (placed : List PlacedBlob) : Type 0 where
  pub count : length placed ≡ length items
  pub each : (k : ℕ) (item : Item) → slice_get items k ≡ Some item
      → slice_get placed k ≡ Some (placed_row pack (offset_of items k) (row_of item))
