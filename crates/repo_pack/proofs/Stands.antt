-- Bytes that pass a reader's tests are a pack.
use Rattle.std.proofs.Common.{◌≡◌, ◌≢◌, ◌≤◌, ◌<◌, ◌+◌, ◌-◌, ◌*◌, ◌/◌, ◌%◌, ◌++◌, ◌∷◌, [], ℕ, zero, suc, List, length, take, drop, map, get_or, refl, sym, ap, subst, ◌∙◌, arith}
use Rattle.std.specs.List.{AllByRecursion, sum_by}
use Rattle.std.specs.Int.{w32, to_le_bytes}
use Rattle.std.proofs.lemmas.List.{length-take, length-drop, length-map, take-append-drop, get_or-take, get_or-drop, get_or_past, take_all, nil_from_length}
use Rattle.std.proofs.lemmas.List.Elements.{recursion_from_All, All-from_recursion}
use Rattle.std.proofs.lemmas.List.Sums.{sum_by-cons}
use Rattle.std.proofs.lemmas.Nat.{le_bytes_4}
use Rattle.std.proofs.Math.Seq.{take-add}
use Rattle.repo_name.specs.Naming.{IsName}
use Rattle.std.proofs.lemmas.Bool.{cases_lt}
use Rattle.std.proofs.Common.{inl, inr}
use Rattle.byteorder.specs.Endian.{little_number}
use Rattle.repo_pack.specs.declared.rows.Row.{Row}
use Rattle.repo_pack.specs.PackLayout.{Item, IsItem, IsBlobLength, kind_number, entry_bytes, blobs_of, header_of, IsPack}
use Rattle.repo_pack.specs.PackReading.{kind_of, length_in, row_in, rows_in, items_of, items_in, IsLaidOut, header_len, front_of, header_in, blobs_in, HasHeader, HasKinds, HasLengths}
use Rattle.repo_pack.specs.PackWriting.{row_of, rows_bytes}
use Rattle.repo_pack.proofs.Entries.{Each, entry, length-header_of}
use Rattle.repo_pack.proofs.RowLemmas.{length-rows_in}
use Rattle.repo_name.specs.Limits.{header_limit}

-- each number of a list is a byte's
abbrev pub AreBytes : List ℕ → Type 0
AreBytes bytes = (i : ℕ) → get_or bytes i 0 < 256

AreBytes-drop : (n : ℕ) (bytes : List ℕ) → AreBytes bytes → AreBytes (drop n bytes)
AreBytes-drop n bytes h i = rw get_or-drop (h (n + i))

AreBytes-take : (n : ℕ) (bytes : List ℕ) → AreBytes bytes → AreBytes (take n bytes)
AreBytes-take n bytes h i =
    elim (cases_lt i n) [
      | inl lt ↦ rw (get_or-take n bytes i 0 lt) (h i)
      | inr le ↦ rw (get_or_past (take n bytes) i 0 (omega (arith, length-take n bytes))) (omega arith)
    ]

-- an entry's bytes, by its row
abbrev spelled : Row → List ℕ
spelled row = entry_bytes row.kind row.length row.name

kind_number-kind_of : (n : ℕ) → n ≤ 1 → kind_number (kind_of n) ≡ n
kind_number-kind_of zero h = refl
kind_number-kind_of (suc zero) h = refl
kind_number-kind_of (suc (suc n)) h = absurd (omega arith)

-- a front of four bytes is that of the number in them
four_bytes : (bytes : List ℕ) → AreBytes bytes → 4 ≤ length bytes → to_le_bytes w32 (little_number 4 bytes) ≡ take 4 bytes
four_bytes bytes h le =
    let a = get_or-take 4 bytes 0 0 (omega arith) in
    let b = get_or-take 4 bytes 1 0 (omega arith) in
    let c = get_or-take 4 bytes 2 0 (omega arith) in
    let d = get_or-take 4 bytes 3 0 (omega arith) in
    le_bytes_4 (take 4 bytes) (little_number 4 bytes) (omega (arith, length-take 4 bytes)) (AreBytes-take 4 bytes h) (omega arith)

-- the entry at the front is spelled as the 37 bytes there
front_spelled : (header : List ℕ) → AreBytes header → 37 ≤ length header → get_or header 0 0 ≤ 1 → spelled (row_in header) ≡ take 37 header
unfolding length_in
front_spelled [] h le kind = absurd (omega arith)
front_spelled (b ∷ rest) h le kind =
    let k = kind_number-kind_of b kind in
    let l = four_bytes rest (λ i. h (suc i)) (omega arith) in
    let n = take-add 4 32 rest in
    ap (λ m. m ∷ to_le_bytes w32 (little_number 4 rest) ++ take 32 (drop 4 rest)) k
    ∙ ap (λ t. b ∷ t ++ take 32 (drop 4 rest)) l ∙ ap (λ t. b ∷ t) (sym n)

kinds_after : (n : ℕ) (header : List ℕ) → ((k : ℕ) → k < suc n → get_or header (37 * k) 0 ≤ 1) → (k : ℕ) → k < n → get_or (drop 37 header) (37 * k) 0 ≤ 1
kinds_after n header kinds k h =
    let e : 37 * suc k ≡ 37 + 37 * k = omega arith in
    let there = kinds (suc k) (omega arith) in
    rw (get_or-drop 37 header (37 * k) 0, ← e) there

-- the first entries are spelled as the bytes there
rows_spelled : (n : ℕ) (header : List ℕ) → AreBytes header → 37 * n ≤ length header → ((k : ℕ) → k < n → get_or header (37 * k) 0 ≤ 1) → rows_bytes (rows_in n header) ≡ take (37 * n) header
unfolding rows_in
rows_spelled zero header h le kinds = refl
rows_spelled (suc n) header h le kinds =
    let e : 37 + 37 * n ≡ 37 * suc n = omega arith in
    let front = front_spelled header h (omega arith) (kinds 0 (omega arith)) in
    let rest = rows_spelled n (drop 37 header) (AreBytes-drop 37 header h) (omega (arith, length-drop 37 header)) (kinds_after n header kinds) in
    ap (λ t. t ++ rows_bytes (rows_in n (drop 37 header))) front ∙ ap (λ t. take 37 header ++ t) rest
    ∙ sym (take-add 37 (37 * n) header) ∙ ap (λ m. take m header) e

pub header_spelled : (items : List Item) → header_of items ≡ rows_bytes (map row_of items)
header_spelled [] = refl
header_spelled (item ∷ items) = ap (λ t. entry item ++ t) (header_spelled items)

-- items made of rows have these rows, where there are bytes enough
rows_back : (rows : List Row) (blobs : List ℕ) → sum_by (λ (row : Row). row.length) rows ≤ length blobs → map row_of (items_of rows blobs) ≡ rows
unfolding items_of
rows_back [] blobs h = refl
rows_back (row ∷ rows) blobs h =
    let s = sum_by-cons (λ (r : Row). r.length) row rows in
    let n : length (take row.length blobs) ≡ row.length = omega (arith, length-take row.length blobs) in
    let rest = rows_back rows (drop row.length blobs) (omega (arith, length-drop row.length blobs)) in
    λ i. record { kind = row.kind; name = row.name; length = n i } ∷ rest i

-- their bytes are all bytes, where the lengths are together as many
blobs_back : (rows : List Row) (blobs : List ℕ) → sum_by (λ (row : Row). row.length) rows ≡ length blobs → blobs_of (items_of rows blobs) ≡ blobs
unfolding items_of
blobs_back [] blobs h = sym (nil_from_length blobs (sym h))
blobs_back (row ∷ rows) blobs h =
    let s = sum_by-cons (λ (r : Row). r.length) row rows in
    let rest = blobs_back rows (drop row.length blobs) (omega (arith, length-drop row.length blobs)) in
    ap (λ t. take row.length blobs ++ t) rest ∙ take-append-drop row.length blobs

-- an entry that an item can have
abbrev IsRow : Row → Type 0
IsRow row = IsBlobLength row.length × IsName row.name

items_each : (rows : List Row) (blobs : List ℕ) → sum_by (λ (row : Row). row.length) rows ≤ length blobs → AllByRecursion IsRow rows → Each (items_of rows blobs)
unfolding items_of
items_each [] blobs h each = tt
items_each (row ∷ rows) blobs h each =
    let s = sum_by-cons (λ (r : Row). r.length) row rows in
    let n : row.length ≡ length (take row.length blobs) = omega (arith, length-take row.length blobs) in
    ((subst (λ (m : ℕ). IsBlobLength m) n each.0.0, each.0.1), items_each rows (drop row.length blobs) (omega (arith, length-drop row.length blobs)) each.1)

name_at_front : (header : List ℕ) → AreBytes header → 37 ≤ length header → IsName (row_in header).name
name_at_front header h le = (omega (arith, length-take 32 (drop 5 header), length-drop 5 header), AreBytes-take 32 (drop 5 header) (AreBytes-drop 5 header h))

rows_each : (n : ℕ) (header : List ℕ) → AreBytes header → 37 * n ≤ length header → AllByRecursion (λ (row : Row). IsBlobLength row.length) (rows_in n header) → AllByRecursion IsRow (rows_in n header)
unfolding rows_in
rows_each zero header h le lengths = tt
rows_each (suc n) header h le lengths =
    ((lengths.0, name_at_front header h (omega arith)), rows_each n (drop 37 header) (AreBytes-drop 37 header h) (omega (arith, length-drop 37 header)) lengths.1)

-- a header and the bytes before it that pass the tests are those of the items that they show
pub laid_out : (header blobs : List ℕ) → AreBytes header → length header % 37 ≡ 0 → length header ≤ header_limit → HasKinds header → HasLengths header blobs
    → IsLaidOut header blobs (items_in header blobs)
laid_out header blobs h whole few kinds lengths =
    let n = length header / 37 in
    let rows = rows_in n header in
    let full : 37 * n ≡ length header = omega arith in
    let each = rows_each n header h (omega arith) (recursion_from_All (λ (row : Row). IsBlobLength row.length) rows lengths.0) in
    let items = items_of rows blobs in
    let back = rows_back rows blobs (omega (arith, lengths.1)) in
    let count = ap length back in
    record {
      few = omega (arith, length-map items row_of, length-rows_in n header);
      each = All-from_recursion IsItem items (items_each rows blobs (omega (arith, lengths.1)) each);
      header_is = sym (header_spelled items ∙ ap rows_bytes back ∙ rows_spelled n header h (omega arith) kinds ∙ ap (λ m. take m header) full ∙ take_all (length header) header (omega arith));
      blobs_is = sym (blobs_back rows blobs lengths.1);
    }

-- the last four bytes are those of the number in them
tail_spelled : (bytes : List ℕ) → AreBytes bytes → 4 ≤ length bytes → drop (length bytes - 4) bytes ≡ to_le_bytes w32 (header_len bytes)
tail_spelled bytes h le =
    let tail = drop (length bytes - 4) bytes in
    let four : length tail ≡ 4 = omega (arith, length-drop (length bytes - 4) bytes) in
    sym (four_bytes tail (AreBytes-drop (length bytes - 4) bytes h) (omega arith) ∙ take_all 4 tail (omega arith))

-- bytes that end in a header's length are blobs, header and that length
parts_are : (bytes : List ℕ) → AreBytes bytes → HasHeader bytes → (length (header_in bytes) ≡ header_len bytes) × (bytes ≡ blobs_in bytes ++ header_in bytes ++ to_le_bytes w32 (length (header_in bytes)))
parts_are bytes h has =
    let whole = has.4 in
    let four = has.0 in
    let front = front_of bytes in
    let f : length front ≡ length bytes - 4 = omega (arith, length-take (length bytes - 4) bytes) in
    let n : length (header_in bytes) ≡ header_len bytes = omega (arith, length-drop (length front - header_len bytes) front) in
    let halves = take-append-drop (length front - header_len bytes) front in
    let all = take-append-drop (length bytes - 4) bytes in
    (n, sym all ∙ ap (λ t. front ++ t) (tail_spelled bytes h has.0 ∙ ap (to_le_bytes w32) (sym n)) ∙ ap (λ t. t ++ to_le_bytes w32 (length (header_in bytes))) (sym halves))

pub whole_header : (bytes : List ℕ) → AreBytes bytes → HasHeader bytes → (length (header_in bytes) % 37 ≡ 0) × (length (header_in bytes) ≤ header_limit)
whole_header bytes h has =
    let n = (parts_are bytes h has).0 in
    (ap (λ m. m % 37) n ∙ has.2, omega (arith, has.3))

-- bytes that pass all tests are the pack of the items that they show
pub stands : (bytes : List ℕ) → AreBytes bytes → HasHeader bytes → IsLaidOut (header_in bytes) (blobs_in bytes) (items_in (header_in bytes) (blobs_in bytes)) → IsPack bytes (items_in (header_in bytes) (blobs_in bytes))
stands bytes h has laid =
    let header = header_in bytes in
    let items = items_in header (blobs_in bytes) in
    let parts = parts_are bytes h has in
    let each = recursion_from_All IsItem items laid.each in
    let count = ap length laid.header_is ∙ length-header_of items each in
    let some : header_len bytes ≢ 0 = has.1 in
    record {
      count = (omega (arith, parts.0), laid.few);
      each = laid.each;
      layout = parts.1 ∙ ap (λ t. t ++ header ++ to_le_bytes w32 (length header)) laid.blobs_is ∙ ap (λ t. blobs_of items ++ t ++ to_le_bytes w32 (length t)) laid.header_is;
    }

-- what a reader keeps of bytes that pass all tests is laid out, and they are the pack that it shows
pub read_out : (bytes header blobs : List ℕ) → AreBytes bytes → HasHeader bytes → HasKinds header → HasLengths header blobs → blobs ≡ blobs_in bytes → header ≡ header_in bytes
    → IsLaidOut header blobs (items_in header blobs) × IsPack bytes (items_in header blobs)
read_out bytes header blobs h has kinds lengths b e =
    let whole = whole_header bytes h has in
    let front = front_of bytes in
    let header_bytes = AreBytes-drop (length front - header_len bytes) front (AreBytes-take (length bytes - 4) bytes h) in
    let n = ap length e in
    let laid = laid_out header blobs (subst AreBytes (sym e) header_bytes) (ap (λ m. m % 37) n ∙ whole.0) (omega (arith, whole.1)) kinds lengths in
    let P : List ℕ → List ℕ → Type 0 = λ x y. IsLaidOut x y (items_in x y) → IsPack bytes (items_in x y) in
    let there : P (header_in bytes) (blobs_in bytes) = stands bytes h has in
    (laid, subst (λ (x : List ℕ). P x blobs) (sym e) (subst (P (header_in bytes)) (sym b) there) laid)
