-- A pack passes a reader's tests, so no bytes with a fault are one.
use Rattle.std.proofs.Common.{◌≡◌, ◌≤◌, ◌<◌, ◌+◌, ◌*◌, ◌++◌, ◌∷◌, [], ℕ, List, length, drop, map, get_or, refl, sym, ap, subst, ◌∙◌, arith}
use Rattle.std.specs.List.{AllByRecursion, sum_by}
use Rattle.std.specs.Int.{w32, to_le_bytes}
use Rattle.std.proofs.lemmas.List.{length-append, length-drop, get_or-drop}
use Rattle.std.proofs.lemmas.List.Elements.{All-from_recursion, All-same}
use Rattle.std.proofs.lemmas.List.Sums.{sum_by-cons}
use Rattle.repo_name.specs.declared.kinds.BlobKind.{BlobKind}
use Rattle.repo_name.specs.declared.kinds.BlobKind.TheVariants.{Content, Tree}
use Rattle.repo_pack.specs.declared.rows.Row.{Row}
use Rattle.repo_pack.specs.PackLayout.{Item, IsBlobLength, kind_number, blobs_of, header_of, IsPack}
use Rattle.repo_pack.specs.PackReading.{blobs_in, HasHeader, HasKinds, HasLengths, IsFault}
use Rattle.repo_pack.specs.declared.faults.PackError.{PackError}
use Rattle.repo_pack.specs.declared.faults.PackError.TheVariants as faults
use Rattle.repo_pack.specs.PackWriting.{row_of}
use Rattle.repo_pack.proofs.Entries.{Each, length-header_of, drop-header_of}
use Rattle.repo_pack.proofs.Packs.{each_of, header_len_is, header_in_is, blobs_in_is, rows_are}

kind_small : (kind : BlobKind) → kind_number kind ≤ 1
kind_small Content = omega arith
kind_small Tree = omega arith

-- the first kind of a header is 0 or 1
first_kind : (items : List Item) → 1 ≤ length items → get_or (header_of items) 0 0 ≤ 1
first_kind [] h = absurd (omega arith)
first_kind (item ∷ items) h = kind_small item.kind

kinds_of_items : (items : List Item) → Each items → HasKinds (header_of items)
kinds_of_items items each k h =
    let n = length-header_of items each in
    let inside : k < length items = omega arith in
    let start = drop-header_of k items (omega arith) each in
    let first = first_kind (drop k items) (omega (arith, length-drop k items)) in
    let zero_more : 37 * k + 0 ≡ 37 * k = omega arith in
    let there : get_or (header_of (drop k items)) 0 0 ≡ get_or (header_of items) (37 * k) 0 = ap (λ t. get_or t 0 0) (sym start) ∙ get_or-drop (37 * k) (header_of items) 0 0 ∙ ap (λ m. get_or (header_of items) m 0) zero_more in
    subst (λ (m : ℕ). m ≤ 1) there first

rows_lengths : (items : List Item) → Each items → AllByRecursion (λ (row : Row). IsBlobLength row.length) (map row_of items)
rows_lengths [] each = tt
rows_lengths (item ∷ items) each = (each.0.0, rows_lengths items each.1)

pub rows_sum : (items : List Item) → sum_by (λ (row : Row). row.length) (map row_of items) ≡ length (blobs_of items)
rows_sum [] = refl
rows_sum (item ∷ items) =
    sum_by-cons (λ (row : Row). row.length) (row_of item) (map row_of items) ∙ ap (λ n. length item.bytes + n) (rows_sum items) ∙ sym (length-append item.bytes (blobs_of items))

lengths_of_items : (items : List Item) → Each items → HasLengths (header_of items) (blobs_of items)
lengths_of_items items each =
    let rows = rows_are items each in (
      All-same (λ (row : Row). IsBlobLength row.length) _ (map row_of items) rows (All-from_recursion (λ (row : Row). IsBlobLength row.length) (map row_of items) (rows_lengths items each)),
      ap (sum_by (λ (row : Row). row.length)) rows ∙ rows_sum items,
    )

header_stands : (bytes : List ℕ) (items : List Item) → IsPack bytes items → HasHeader bytes
header_stands bytes items h =
    let n = header_len_is bytes items h in
    let k = length-header_of items (each_of bytes items h) in
    let total = ap length h.layout ∙ length-append (blobs_of items ++ header_of items) (to_le_bytes w32 (length (header_of items))) in
    let front = length-append (blobs_of items) (header_of items) in
    let some = h.count.0 in
    let few = h.count.1 in
    (omega arith, omega arith, omega arith, omega arith, omega arith)

-- no bytes with a fault are a pack
pub no_pack : (bytes : List ℕ) (fault : PackError) (items : List Item) → IsFault bytes fault → ¬ IsPack bytes items
no_pack bytes faults.Short items f h = let four = (header_stands bytes items h).0 in omega arith
no_pack bytes faults.Empty items f h = (header_stands bytes items h).1 f.1
no_pack bytes faults.HeaderLength items f h = f.2 (header_stands bytes items h)
no_pack bytes faults.BlobKind items f h =
    f.1 (subst HasKinds (sym (header_in_is bytes items h)) (kinds_of_items items (each_of bytes items h)))
no_pack bytes faults.Lengths items f h =
    f.2 (subst (λ (header : List ℕ). HasLengths header (blobs_in bytes)) (sym (header_in_is bytes items h))
    (subst (HasLengths (header_of items)) (sym (blobs_in_is bytes items h)) (lengths_of_items items (each_of bytes items h))))
no_pack bytes faults.Closed items f h = f
no_pack bytes faults.TooLarge items f h = f
no_pack bytes faults.Memory items f h = f
