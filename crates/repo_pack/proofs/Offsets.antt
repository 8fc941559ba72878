-- Where a pack's blobs lie.
use Rattle.std.proofs.Common.{◌≡◌, ◌≤◌, ◌+◌, ◌++◌, ◌∷◌, [], ℕ, zero, suc, List, length, take, drop, Some, None, cond, refl, sym, ap, subst, ◌∙◌, append_assoc, arith}
use Rattle.std.specs.Prelude.{slice_get}
use Rattle.std.specs.List.{sum_by}
use Rattle.std.specs.Int.{w32, to_le_bytes}
use Rattle.std.proofs.lemmas.Bool.{le-leb}
use Rattle.std.proofs.lemmas.List.{take_at, drop_at, drop-drop, length-append, length-take, take-append-le, drop-append-le}
use Rattle.std.proofs.lemmas.List.Sums.{sum_by-cons}
use Rattle.std.proofs.lemmas.List.Concat.{length-flat_map}
use Rattle.repo_name.specs.Ranges.{range}
use Rattle.repo_pack.specs.PackLayout.{Item, blobs_of, header_of, IsPack, offset_of}

pub offset_of-cons : (item : Item) (items : List Item) (place : ℕ) → offset_of (item ∷ items) (suc place) ≡ length item.bytes + offset_of items place
offset_of-cons item items place = sum_by-cons (λ (i : Item). length i.bytes) item (take place items)

pub length-blobs_of : (items : List Item) → length (blobs_of items) ≡ sum_by (λ (i : Item). length i.bytes) items
length-blobs_of items = length-flat_map (λ (i : Item). i.bytes) items

-- a blob ends within the bytes, also where others follow
pub blob_fits : (items : List Item) (place : ℕ) (item : Item) → slice_get items place ≡ Some item → offset_of items place + length item.bytes ≤ length (blobs_of items)
blob_fits [] place item h = absurd cc
blob_fits (first ∷ items) zero item h =
    let e : first ≡ item = cc in
    let n = ap (λ (i : Item). length i.bytes) e in
    omega (arith, n, length-append first.bytes (blobs_of items))
blob_fits (first ∷ items) (suc place) item h =
    omega (arith, offset_of-cons first items place, blob_fits items place item h, length-append first.bytes (blobs_of items))

-- the bytes at a blob's offset, as many as it has, are the blob's
pub blob_at : (items : List Item) (place : ℕ) (item : Item) → slice_get items place ≡ Some item → take (length item.bytes) (drop (offset_of items place) (blobs_of items)) ≡ item.bytes
blob_at [] place item h = absurd cc
blob_at (first ∷ items) zero item h =
    let e : first ≡ item = cc in
    subst (λ (i : Item). take (length i.bytes) (first.bytes ++ blobs_of items) ≡ i.bytes) e (take_at first.bytes (blobs_of items) (length first.bytes) refl)
blob_at (first ∷ items) (suc place) item h =
    let whole = first.bytes ++ blobs_of items in
    let start : drop (offset_of (first ∷ items) (suc place)) whole ≡ drop (offset_of items place) (blobs_of items) =
    ap (λ n. drop n whole) (offset_of-cons first items place) ∙ sym (drop-drop (offset_of items place) (length first.bytes) whole)
    ∙ ap (drop (offset_of items place)) (drop_at first.bytes (blobs_of items) (length first.bytes) refl) in
    ap (take (length item.bytes)) start ∙ blob_at items place item h

range_at : (bytes : List ℕ) (offset len : ℕ) → offset + len ≤ length bytes → range bytes offset len ≡ Some (take len (drop offset bytes))
range_at bytes offset len h = ap (λ b. cond b (Some (take len (drop offset bytes))) None) (le-leb _ _ h)

pub range_is : (bytes : List ℕ) (items : List Item) (place : ℕ) (item : Item) → IsPack bytes items → slice_get items place ≡ Some item
    → range bytes (offset_of items place) (length item.bytes) ≡ Some item.bytes
range_is bytes items place item h found =
    let rest = header_of items ++ to_le_bytes w32 (length (header_of items)) in
    let layout : bytes ≡ blobs_of items ++ rest = h.layout ∙ append_assoc (blobs_of items) (header_of items) (to_le_bytes w32 (length (header_of items))) in
    let offset = offset_of items place in
    let len = length item.bytes in
    let fits = blob_fits items place item found in
    let long = ap length layout ∙ length-append (blobs_of items) rest in
    let there : offset + len ≤ length bytes = omega arith in
    let inside : len ≤ length (drop offset (blobs_of items)) = omega (arith, ap length (blob_at items place item found), length-take len (drop offset (blobs_of items))) in
    let start : drop offset bytes ≡ drop offset (blobs_of items) ++ rest = ap (drop offset) layout ∙ drop-append-le offset (blobs_of items) rest (omega arith) in
    range_at bytes offset len there
    ∙ ap (λ t. Some (take len t)) start
    ∙ ap Some (take-append-le len (drop offset (blobs_of items)) rest inside ∙ blob_at items place item found)
