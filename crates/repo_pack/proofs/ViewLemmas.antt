-- What a header and the bytes before it show at a place.
use Rattle.std.proofs.Common.{◌≡◌, ◌≤◌, ◌<◌, ◌+◌, ◌*◌, ◌∷◌, [], ℕ, zero, suc, List, length, take, drop, Option, Some, refl, sym, ap, subst, ◌∙◌, arith}
use Rattle.std.specs.Prelude.{slice_get, IsSomeAnd}
use Rattle.std.specs.List.{sum_by}
use Rattle.std.proofs.lemmas.List.Elements.{recursion_from_All}
use Rattle.repo_pack.specs.declared.rows.Row.{Row}
use Rattle.repo_pack.specs.PackLayout.{Item, IsItem, header_of, offset_of}
use Rattle.repo_pack.specs.declared.places.Entry.{Entry}
use Rattle.repo_pack.specs.PackReading.{row_in, rows_in, IsLaidOut, entry_of}
use Rattle.repo_pack.specs.PackWriting.{row_of}
use Rattle.repo_pack.proofs.Entries.{Each, length-header_of, rows_in-header_of, drop-header_of, row_in-entry}
use Rattle.repo_pack.proofs.Offsets.{length-blobs_of, blob_fits, blob_at}
use Rattle.repo_pack.proofs.Passes.{rows_sum}
use Rattle.repo_name.specs.Limits.{blobs_limit}

pub found_at : (items : List Item) (place : ℕ) → place < length items → (item : Item) × (slice_get items place ≡ Some item)
found_at [] place h = absurd (omega arith)
found_at (item ∷ items) zero h = (item, refl)
found_at (item ∷ items) (suc place) h = found_at items place (omega arith)

found_below : (items : List Item) (place : ℕ) (item : Item) → slice_get items place ≡ Some item → place < length items
found_below [] place item h = absurd cc
found_below (first ∷ items) zero item h = omega arith
found_below (first ∷ items) (suc place) item h = let n = found_below items place item h in omega arith

pub some_and : {X : Type 0} (o : Option X) (x : X) (P : X → Type 0) → o ≡ Some x → P x → IsSomeAnd o P
some_and o x P e p = subst (λ (w : Option _). IsSomeAnd w P) (sym e) p

pub some_at : {X : Type 0} (o : Option X) (x : X) (P : X → Type 0) → o ≡ Some x → IsSomeAnd o P → P x
some_at o x P e p = subst (λ (w : Option _). IsSomeAnd w P) e p

-- what is left of the items from a place on
from_place : (items : List Item) (place : ℕ) (item : Item) → slice_get items place ≡ Some item → drop place items ≡ item ∷ drop (suc place) items
from_place [] place item h = absurd cc
from_place (first ∷ items) zero item h = ap (λ (i : Item). i ∷ items) cc
from_place (first ∷ items) (suc place) item h = from_place items place item h

item_there : (items : List Item) (place : ℕ) (item : Item) → slice_get items place ≡ Some item → Each items → IsItem item
item_there [] place item h each = absurd cc
item_there (first ∷ items) zero item h each = let e : first ≡ item = cc in subst IsItem e each.0
item_there (first ∷ items) (suc place) item h each = item_there items place item h each.1

module _ (header blobs : List ℕ) (items : List Item) (laid : IsLaidOut header blobs items) where
  each : Each items
  each = recursion_from_All IsItem items laid.each

  header_length : length header ≡ 37 * length items
  header_length = ap length laid.header_is ∙ length-header_of items each

  pub count_there : (length items ≤ blobs_limit) × (length header ≡ 37 * length items)
  count_there = (laid.few, header_length)

  pub row_there : (place : ℕ) (item : Item) → slice_get items place ≡ Some item → row_in (drop (37 * place) header) ≡ row_of item
  row_there place item found =
      let inside = found_below items place item found in
      let start = ap (drop (37 * place)) laid.header_is ∙ drop-header_of place items (omega arith) each ∙ ap header_of (from_place items place item found) in
      ap row_in start ∙ row_in-entry item (header_of (drop (suc place) items)) (item_there items place item found each)

  pub offset_there : (place : ℕ) → place ≤ length items → sum_by (λ (row : Row). row.length) (rows_in place header) ≡ offset_of items place
  offset_there place le =
      ap (sum_by (λ (row : Row). row.length)) (ap (rows_in place) laid.header_is ∙ rows_in-header_of place items le each)
      ∙ rows_sum (take place items) ∙ length-blobs_of (take place items)

  pub blob_there : (place : ℕ) (item : Item) → slice_get items place ≡ Some item → take (length item.bytes) (drop (offset_of items place) blobs) ≡ item.bytes
  blob_there place item found = ap (λ t. take (length item.bytes) (drop (offset_of items place) t)) laid.blobs_is ∙ blob_at items place item found

  pub blob_within : (place : ℕ) (item : Item) → slice_get items place ≡ Some item → offset_of items place + length item.bytes ≤ length blobs
  blob_within place item found = omega (arith, blob_fits items place item found, ap length laid.blobs_is)

  -- what an entry says of the bytes
  pub entry_within : (place : ℕ) (entry : Entry) → place < length items → IsSomeAnd (slice_get items place) (λ item. entry ≡ entry_of item (offset_of items place)) → entry.offset + entry.length ≤ length blobs
  entry_within place entry h says =
      let f = found_at items place h in
      let e = some_at (slice_get items place) f.0 (λ (item : Item). entry ≡ entry_of item (offset_of items place)) f.1 says in
      let o : entry.offset ≡ offset_of items place = ap (λ (x : Entry). x.offset) e in
      let n : entry.length ≡ length f.0.bytes = ap (λ (x : Entry). x.length) e in
      omega (arith, blob_within place f.0 f.1)

  pub entry_blob : (place : ℕ) (entry : Entry) → place < length items → IsSomeAnd (slice_get items place) (λ item. entry ≡ entry_of item (offset_of items place))
      → IsSomeAnd (slice_get items place) (λ item. take entry.length (drop entry.offset blobs) ≡ item.bytes)
  entry_blob place entry h says =
      let f = found_at items place h in
      let e = some_at (slice_get items place) f.0 (λ (item : Item). entry ≡ entry_of item (offset_of items place)) f.1 says in
      some_and (slice_get items place) f.0 (λ (item : Item). take entry.length (drop entry.offset blobs) ≡ item.bytes) f.1
      (ap (λ (x : Entry). take x.length (drop x.offset blobs)) e ∙ blob_there place f.0 f.1)
