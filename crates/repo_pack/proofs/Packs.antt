-- What the bytes of a pack show.
use Rattle.std.proofs.Common.{◌≡◌, ◌≤◌, ◌<◌, ◌-◌, ◌/◌, ◌^◌, ◌++◌, [], ℕ, List, length, take, drop, map, sym, ap, ◌∙◌, arith}
use Rattle.std.specs.Int.{w32, to_le_bytes}
use Rattle.std.proofs.lemmas.List.{take_at, drop_at, take_all, length-append}
use Rattle.std.proofs.lemmas.List.Elements.{recursion_from_All}
use Rattle.byteorder.specs.Endian.{little_number}
use Rattle.byteorder.specs.Numbers.{little_number-reads_back}
use Rattle.repo_pack.specs.PackLayout.{Item, IsItem, blobs_of, header_of, IsPack}
use Rattle.repo_pack.specs.PackReading.{rows_in, items_of, items_in, header_len, front_of, header_in, blobs_in}
use Rattle.repo_pack.specs.PackWriting.{row_of}
use Rattle.repo_pack.proofs.Entries.{Each, length-header_of, rows_in-header_of, items_of-rows}

pub each_of : (bytes : List ℕ) (items : List Item) → IsPack bytes items → Each items
each_of bytes items h = recursion_from_All IsItem items h.each

front : List Item → List ℕ
front items = blobs_of items ++ header_of items

length_is : (bytes : List ℕ) (items : List Item) → IsPack bytes items → length bytes - 4 ≡ length (front items)
unfolding front
length_is bytes items h =
    let n = ap length h.layout ∙ length-append (front items) (to_le_bytes w32 (length (header_of items))) in
    omega (arith, n)

-- the blobs' bytes are no more than the pack's
pub blobs_short : (bytes : List ℕ) (items : List Item) → IsPack bytes items → length (blobs_of items) ≤ length bytes
blobs_short bytes items h =
    let whole = ap length h.layout ∙ length-append (blobs_of items ++ header_of items) (to_le_bytes w32 (length (header_of items))) in
    omega (arith, whole, length-append (blobs_of items) (header_of items))

front_is : (bytes : List ℕ) (items : List Item) → IsPack bytes items → front_of bytes ≡ blobs_of items ++ header_of items
unfolding front
front_is bytes items h =
    let tail = to_le_bytes w32 (length (header_of items)) in
    let n = length_is bytes items h in
    ap (take (length bytes - 4)) h.layout ∙ take_at (front items) tail (length bytes - 4) (sym n)

pub header_len_is : (bytes : List ℕ) (items : List Item) → IsPack bytes items → header_len bytes ≡ length (header_of items)
unfolding front
header_len_is bytes items h =
    let len = length (header_of items) in
    let tail = to_le_bytes w32 len in
    let n = length_is bytes items h in
    let few = h.count.1 in
    let small : len < 256 ^ 4 = omega (arith, length-header_of items (each_of bytes items h)) in
    ap (λ t. little_number 4 t) (ap (drop (length bytes - 4)) h.layout ∙ drop_at (front items) tail (length bytes - 4) (sym n))
    ∙ little_number-reads_back 4 len [] small

before_is : (bytes : List ℕ) (items : List Item) → IsPack bytes items → length (front_of bytes) - header_len bytes ≡ length (blobs_of items)
before_is bytes items h =
    let f = ap length (front_is bytes items h) ∙ length-append (blobs_of items) (header_of items) in
    omega (arith, f, header_len_is bytes items h)

pub header_in_is : (bytes : List ℕ) (items : List Item) → IsPack bytes items → header_in bytes ≡ header_of items
header_in_is bytes items h =
    ap (drop (length (front_of bytes) - header_len bytes)) (front_is bytes items h)
    ∙ drop_at (blobs_of items) (header_of items) (length (front_of bytes) - header_len bytes) (sym (before_is bytes items h))

pub blobs_in_is : (bytes : List ℕ) (items : List Item) → IsPack bytes items → blobs_in bytes ≡ blobs_of items
blobs_in_is bytes items h =
    ap (take (length (front_of bytes) - header_len bytes)) (front_is bytes items h)
    ∙ take_at (blobs_of items) (header_of items) (length (front_of bytes) - header_len bytes) (sym (before_is bytes items h))

pub rows_are : (items : List Item) → Each items → rows_in (length (header_of items) / 37) (header_of items) ≡ map row_of items
rows_are items h =
    let n : length (header_of items) / 37 ≡ length items = omega (arith, length-header_of items h) in
    ap (λ k. rows_in k (header_of items)) n ∙ rows_in-header_of (length items) items (omega arith) h ∙ ap (map row_of) (take_all (length items) items (omega arith))

-- a pack's own header and blobs show its items
pub items_in_is : (items : List Item) → Each items → items_in (header_of items) (blobs_of items) ≡ items
items_in_is items h = ap (λ rows. items_of rows (blobs_of items)) (rows_are items h) ∙ items_of-rows items

-- a pack shows its items
pub shown : (bytes : List ℕ) (items : List Item) → IsPack bytes items → items_in (header_in bytes) (blobs_in bytes) ≡ items
shown bytes items h =
    ap (λ header. items_in header (blobs_in bytes)) (header_in_is bytes items h)
    ∙ ap (λ blobs. items_in (header_of items) blobs) (blobs_in_is bytes items h)
    ∙ items_in_is items (each_of bytes items h)

pub packs_one : (bytes : List ℕ) (a b : List Item) → IsPack bytes a → IsPack bytes b → a ≡ b
packs_one bytes a b p q = sym (shown bytes a p) ∙ shown bytes b q
