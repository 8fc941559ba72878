use Rattle.std.specs.Prelude.{◌≡◌, ◌≢◌, ◌≤◌, ◌<◌, ◌+◌, ◌-◌, ◌*◌, ◌/◌, ◌%◌, ◌∷◌, [], ℕ, zero, suc, List, length, take, drop, slice_index}
use Rattle.std.specs.List.{All, sum_by}
use Rattle.byteorder.specs.Endian.{little_number}
use Rattle.repo_name.specs.declared.kinds.BlobKind.{BlobKind}
use Rattle.repo_name.specs.declared.kinds.BlobKind.TheVariants.{Content, Tree}
use Rattle.repo_pack.specs.declared.rows.Row.{Row}
use Rattle.repo_pack.specs.declared.places.Entry.{Entry}
use Rattle.repo_pack.specs.declared.faults.PackError.{PackError}
use Rattle.repo_pack.specs.declared.faults.PackError.TheVariants as faults
use Rattle.repo_pack.specs.PackLayout.{Item, IsBlobLength, IsItem, blobs_of, header_of}
use Rattle.repo_name.specs.Limits.{blobs_limit, header_limit}

-- what a pack tells of an item that begins at this offset
abbrev pub entry_of : Item → ℕ → Entry
entry_of item offset =
    record { kind = item.kind; name = item.name; offset = offset; length = length item.bytes }

-- the kind of a number: 0 is a content's, any other is taken for a tree's
abbrev pub kind_of : ℕ → BlobKind
kind_of zero = Content
kind_of (suc n) = Tree

-- the length in the entry at the front: four bytes behind the kind, the lowest first
unfoldable pub length_in : List ℕ → ℕ
length_in header = little_number 4 (drop 1 header)

-- the entry at the front: a kind, a length and a name
abbrev pub row_in : List ℕ → Row
row_in header =
    record { kind = kind_of (slice_index header 0); name = record { 0 = take 32 (drop 5 header) }; length = length_in header }

-- so many entries from the front
unfoldable pub rows_in : ℕ → List ℕ → List Row
rows_in zero header = []
rows_in (suc n) header = row_in header ∷ rows_in n (drop 37 header)

-- the entries of a header
abbrev pub header_rows : List ℕ → List Row
header_rows header = rows_in (length header / 37) header

-- the items of which these are the entries, whose bytes lie one after another
unfoldable pub items_of : List Row → List ℕ → List Item
items_of [] blobs = []
items_of (row ∷ rows) blobs =
    record { kind = row.kind; name = row.name; bytes = take row.length blobs } ∷ items_of rows (drop row.length blobs)

-- the items of a header and of the bytes before it
abbrev pub items_in : List ℕ → List ℕ → List Item
items_in header blobs = items_of (header_rows header) blobs

-- a header and the bytes before it are those of these items
pub record IsLaidOut (header blobs : List ℕ) (items : List Item) : Type 0 where
  pub few : length items ≤ blobs_limit
  pub each : All IsItem items
  pub header_is : header ≡ header_of items
  pub blobs_is : blobs ≡ blobs_of items

-- the number in the last four bytes, the lowest first: the header's length
abbrev pub header_len : List ℕ → ℕ
header_len bytes = little_number 4 (drop (length bytes - 4) bytes)

-- all but the last four bytes
abbrev pub front_of : List ℕ → List ℕ
front_of bytes = take (length bytes - 4) bytes

-- the header
abbrev pub header_in : List ℕ → List ℕ
header_in bytes = drop (length (front_of bytes) - header_len bytes) (front_of bytes)

-- the bytes before the header
abbrev pub blobs_in : List ℕ → List ℕ
blobs_in bytes = take (length (front_of bytes) - header_len bytes) (front_of bytes)

-- a header's length: whole entries, 1 to 4,096 of them, and no more than the bytes before the length
abbrev pub HasHeader : List ℕ → Type 0
HasHeader bytes = (4 ≤ length bytes) × (header_len bytes ≢ 0) × (header_len bytes % 37 ≡ 0)
    × (header_len bytes ≤ header_limit) × (header_len bytes + 4 ≤ length bytes)

-- the kind of each entry is 0 or 1
abbrev pub HasKinds : List ℕ → Type 0
HasKinds header = (k : ℕ) → k < length header / 37 → slice_index header (37 * k) ≤ 1

-- the length of each entry is a blob's, and they are together the bytes before the header
abbrev pub HasLengths : List ℕ → List ℕ → Type 0
HasLengths header blobs = All (λ row. IsBlobLength row.length) (header_rows header)
    × (sum_by (λ row. row.length) (header_rows header) ≡ length blobs)

-- Why some bytes are no pack, by the fault that is told: the first in this order.
abbrev pub IsFault : List ℕ → PackError → Type 0
IsFault bytes faults.Short = length bytes < 4
IsFault bytes faults.Empty = (4 ≤ length bytes) × (header_len bytes ≡ 0)
IsFault bytes faults.HeaderLength = (4 ≤ length bytes) × (header_len bytes ≢ 0) × ¬ HasHeader bytes
IsFault bytes faults.BlobKind = HasHeader bytes × ¬ HasKinds (header_in bytes)
IsFault bytes faults.Lengths =
    HasHeader bytes × HasKinds (header_in bytes) × ¬ HasLengths (header_in bytes) (blobs_in bytes)
IsFault bytes faults.Closed = ⊥
IsFault bytes faults.TooLarge = ⊥
IsFault bytes faults.Memory = ⊥
