-- What the entries of a pack's items read as.
use Rattle.std.proofs.Common.{◌≡◌, ◌≤◌, ◌+◌, ◌*◌, ◌++◌, ◌∷◌, [], ℕ, zero, suc, List, length, take, drop, map, refl, sym, ap, ◌∙◌, arith}
use Rattle.std.specs.List.{AllByRecursion}
use Rattle.std.proofs.lemmas.List.{take_at, drop_at, drop-drop, length-append}
use Rattle.byteorder.specs.Endian.{little_number}
use Rattle.byteorder.specs.Numbers.{little_number-reads_back}
use Rattle.repo_name.specs.declared.kinds.BlobKind.{BlobKind}
use Rattle.repo_name.specs.declared.kinds.BlobKind.TheVariants.{Content, Tree}
use Rattle.repo_pack.specs.PackLayout.{Item, IsItem, kind_number, entry_bytes, blobs_of, header_of}
use Rattle.repo_pack.specs.PackReading.{kind_of, length_in, row_in, rows_in, items_of}
use Rattle.repo_pack.specs.PackWriting.{row_of}

-- each is an item, by cases on the list
abbrev pub Each : List Item → Type 0
Each items = AllByRecursion IsItem items

abbrev pub entry : Item → List ℕ
entry item = entry_bytes item.kind (length item.bytes) item.name

pub length-entry : (item : Item) → IsItem item → length (entry item) ≡ 37
length-entry item h = let n : length item.name.0 ≡ 32 = h.1.0 in omega arith

pub length-header_of : (items : List Item) → Each items → length (header_of items) ≡ 37 * length items
length-header_of [] h = refl
length-header_of (item ∷ items) h =
    let front = length-entry item h.0 in
    let rest = length-header_of items h.1 in
    omega (arith, length-append (entry item) (header_of items))

kind_of-kind_number : (kind : BlobKind) → kind_of (kind_number kind) ≡ kind
kind_of-kind_number Content = refl
kind_of-kind_number Tree = refl

-- an entry at the front reads as its item's
pub row_in-entry : (item : Item) (rest : List ℕ) → IsItem item → row_in (entry item ++ rest) ≡ row_of item
unfolding length_in
row_in-entry item rest h =
    let k = kind_of-kind_number item.kind in
    let l : little_number 4 (drop 1 (entry item ++ rest)) ≡ length item.bytes = little_number-reads_back 4 (length item.bytes) (item.name.0 ++ rest) (omega (arith, h.0.1)) in
    let n : take 32 (drop 5 (entry item ++ rest)) ≡ item.name.0 = take_at item.name.0 rest 32 h.1.0 in
    λ i. record { kind = k i; name = record { 0 = n i }; length = l i }

pub drop-entry : (item : Item) (rest : List ℕ) → IsItem item → drop 37 (entry item ++ rest) ≡ rest
drop-entry item rest h = drop_at (entry item) rest 37 (length-entry item h)

-- the first entries of a header
pub rows_in-header_of : (n : ℕ) (items : List Item) → n ≤ length items → Each items → rows_in n (header_of items) ≡ map row_of (take n items)
unfolding rows_in
rows_in-header_of zero items le h = refl
rows_in-header_of (suc n) [] le h = absurd (omega arith)
rows_in-header_of (suc n) (item ∷ items) le h =
    let front = row_in-entry item (header_of items) h.0 in
    let rest = ap (rows_in n) (drop-entry item (header_of items) h.0) ∙ rows_in-header_of n items (omega arith) h.1 in
    λ i. front i ∷ rest i

-- what stands from an entry on
pub drop-header_of : (n : ℕ) (items : List Item) → n ≤ length items → Each items → drop (37 * n) (header_of items) ≡ header_of (drop n items)
drop-header_of zero items le h = refl
drop-header_of (suc n) [] le h = absurd (omega arith)
drop-header_of (suc n) (item ∷ items) le h =
    let step : 37 * suc n ≡ 37 + 37 * n = omega arith in
    ap (λ m. drop m (entry item ++ header_of items)) step ∙ sym (drop-drop (37 * n) 37 (entry item ++ header_of items))
    ∙ ap (drop (37 * n)) (drop-entry item (header_of items) h.0) ∙ drop-header_of n items (omega arith) h.1

-- the items' own entries and bytes give the items
pub items_of-rows : (items : List Item) → items_of (map row_of items) (blobs_of items) ≡ items
unfolding items_of
items_of-rows [] = refl
items_of-rows (item ∷ items) =
    let bytes = take_at item.bytes (blobs_of items) (length item.bytes) refl in
    let rest = ap (items_of (map row_of items)) (drop_at item.bytes (blobs_of items) (length item.bytes) refl) ∙ items_of-rows items in
    λ i. record { kind = item.kind; name = item.name; bytes = bytes i } ∷ rest i
