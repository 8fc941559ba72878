-- A pack that is written: one more item, and its end.
use Rattle.std.proofs.Common.{◌≡◌, ◌≤◌, ◌<◌, ◌+◌, ◌-◌, ◌^◌, ◌++◌, ◌∷◌, [], ℕ, zero, suc, List, length, drop, take, map, get_or, refl, sym, ap, ◌∙◌, append_assoc, arith}
use Rattle.std.specs.Prelude.{slice_get, Some}
use Rattle.std.specs.List.{All, sum_by}
use Rattle.std.specs.Int.{w32, to_le_bytes}
use Rattle.std.proofs.lemmas.List.{append-nil, length-append, length-map, map_push, length_push, drop_more, drop_all}
use Rattle.std.proofs.lemmas.List.Elements.{All-push, All-nil, All-cons, All-head, All-tail, recursion_from_All}
use Rattle.std.proofs.lemmas.List.Concat.{flat_map-append}
use Rattle.repo_name.specs.declared.names.Name.{Name}
use Rattle.repo_pack.specs.declared.rows.Row.{Row}
use Rattle.repo_pack.specs.declared.places.PlacedBlob.{PlacedBlob}
use Rattle.repo_pack.specs.PackLayout.{Item, IsItem, IsNamed, IsWithin, blobs_of, header_of, offset_of, IsTruePack}
use Rattle.repo_pack.specs.PackReading.{items_of}
use Rattle.repo_pack.specs.PackWriting.{row_of, rows_bytes, ending_of, IsFilled, placed_row, placed_from, ArePlaced}
use Rattle.repo_pack.proofs.Entries.{items_of-rows, length-header_of}
use Rattle.repo_pack.proofs.Offsets.{offset_of-cons}
use Rattle.repo_pack.proofs.Passes.{rows_sum}
use Rattle.repo_pack.proofs.Stands.{header_spelled}
use Rattle.repo_name.specs.Limits.{blobs_limit, contents_limit, greatest_target, least_target, pack_limit}

-- rows and bytes of some items show these
pub filled_shows : (rows : List Row) (blobs : List ℕ) (items : List Item) → rows ≡ map row_of items → blobs ≡ blobs_of items → items_of rows blobs ≡ items
filled_shows rows blobs items r b = ap (λ x. items_of x blobs) r ∙ ap (items_of (map row_of items)) b ∙ items_of-rows items

pub filled_none : (target : ℕ) → least_target ≤ target → target ≤ greatest_target → IsFilled [] [] target (items_of [] [])
unfolding items_of
filled_none target low high = record {
  bounds = (low, high);
  few = omega arith;
  room = omega arith;
  each = All-nil IsItem;
  named = All-nil IsNamed;
  rows_are = refl;
  blobs_are = refl;
}

pub shows_none : items_of [] [] ≡ []
unfolding items_of
shows_none = refl

blobs_of-push : (items : List Item) (item : Item) → blobs_of (items ++ item ∷ []) ≡ blobs_of items ++ item.bytes
blobs_of-push items item = flat_map-append (λ (i : Item). i.bytes) items (item ∷ []) ∙ ap (λ t. blobs_of items ++ t) (append-nil item.bytes)

module _ (rows : List Row) (blobs : List ℕ) (target : ℕ) (items : List Item) (filled : IsFilled rows blobs target items) where
  pub rows_push : (item : Item) → rows ++ row_of item ∷ [] ≡ map row_of (items ++ item ∷ [])
  rows_push item = ap (λ t. t ++ row_of item ∷ []) filled.rows_are ∙ sym (map_push row_of items item)

  pub blobs_push : (item : Item) → blobs ++ item.bytes ≡ blobs_of (items ++ item ∷ [])
  blobs_push item = ap (λ t. t ++ item.bytes) filled.blobs_are ∙ sym (blobs_of-push items item)

  pub shows_push : (item : Item) → items_of (rows ++ row_of item ∷ []) (blobs ++ item.bytes) ≡ items ++ item ∷ []
  shows_push item = filled_shows (rows ++ row_of item ∷ []) (blobs ++ item.bytes) (items ++ item ∷ []) (rows_push item) (blobs_push item)

  -- one more item, where there is room
  pub filled_push : (item : Item) → IsItem item → IsNamed item → length items < blobs_limit → length blobs < target
      → IsFilled (rows ++ row_of item ∷ []) (blobs ++ item.bytes) target (items ++ item ∷ [])
  filled_push item is named few room =
      let small = is.0.1 in
      record {
        bounds = filled.bounds;
        few = omega (arith, length_push items item);
        room = omega (arith, length-append blobs item.bytes);
        each = All-push IsItem items item filled.each is;
        named = All-push IsNamed items item filled.named named;
        rows_are = rows_push item;
        blobs_are = blobs_push item;
      }

  rows_bytes_are : rows_bytes rows ≡ header_of items
  rows_bytes_are = ap rows_bytes filled.rows_are ∙ sym (header_spelled items)

  pub sealed_is : 1 ≤ length items → IsTruePack (blobs ++ ending_of rows) items
  sealed_is some = record {
    pack = record {
      count = (some, filled.few);
      each = filled.each;
      layout = sym (append_assoc blobs (rows_bytes rows) (to_le_bytes w32 (length (rows_bytes rows))))
          ∙ ap (λ t. t ++ rows_bytes rows ++ to_le_bytes w32 (length (rows_bytes rows))) filled.blobs_are
          ∙ ap (λ t. blobs_of items ++ t ++ to_le_bytes w32 (length t)) rows_bytes_are;
    };
    named = filled.named;
  }

  pub sealed_length : length (blobs ++ ending_of rows) ≤ pack_limit
  sealed_length =
      let header = ap length rows_bytes_are ∙ length-header_of items (recursion_from_All IsItem items filled.each) in
      let few = filled.few in
      let room = filled.room in
      let high = filled.bounds.1 in
      let tail = to_le_bytes w32 (length (rows_bytes rows)) in
      let four : length tail ≡ 4 = refl in
      omega (arith, length-append blobs (rows_bytes rows ++ tail), length-append (rows_bytes rows) tail)

  pub lengths_small : sum_by (λ (row : Row). row.length) rows < 2 ^ 32
  lengths_small =
      let total = ap (sum_by (λ (row : Row). row.length)) filled.rows_are ∙ rows_sum items ∙ ap length (sym filled.blobs_are) in
      let room = filled.room in
      let high = filled.bounds.1 in
      omega arith

-- the items of some entries are placed, from an offset on
placed_there : (pack : Name) (offset : ℕ) (items : List Item) (k : ℕ) (item : Item) → slice_get items k ≡ Some item
    → slice_get (placed_from pack offset (map row_of items)) k ≡ Some (placed_row pack (offset + offset_of items k) (row_of item))
unfolding placed_from
placed_there pack offset [] k item h = absurd cc
placed_there pack offset (first ∷ items) zero item h =
    let e : first ≡ item = cc in
    let zero_more : offset ≡ offset + 0 = omega arith in
    λ i. Some (placed_row pack (zero_more i) (row_of (e i)))
placed_there pack offset (first ∷ items) (suc k) item h =
    let e : (offset + length first.bytes) + offset_of items k ≡ offset + offset_of (first ∷ items) (suc k) = omega (arith, offset_of-cons first items k) in
    placed_there pack (offset + length first.bytes) items k item h ∙ ap (λ o. Some (placed_row pack o (row_of item))) e

length-placed_from : (pack : Name) (offset : ℕ) (rows : List Row) → length (placed_from pack offset rows) ≡ length rows
unfolding placed_from
length-placed_from pack offset [] = refl
length-placed_from pack offset (row ∷ rows) = ap suc (length-placed_from pack (offset + row.length) rows)

pub placed_are : (pack : Name) (items : List Item) → ArePlaced pack items (placed_from pack 0 (map row_of items))
placed_are pack items = record {
  count = length-placed_from pack 0 (map row_of items) ∙ length-map items row_of;
  each = λ k item h.
      let e : 0 + offset_of items k ≡ offset_of items k = omega arith in
      placed_there pack 0 items k item h ∙ ap (λ o. Some (placed_row pack o (row_of item))) e;
}

-- they are within range, where the items' bytes are
placed_in_range : (pack : Name) (offset : ℕ) (items : List Item) → All IsItem items → offset + length (blobs_of items) ≤ contents_limit
    → All (λ (blob : PlacedBlob). IsWithin blob.place.offset blob.place.length) (placed_from pack offset (map row_of items))
unfolding placed_from
placed_in_range pack offset [] each room = All-nil (λ (blob : PlacedBlob). IsWithin blob.place.offset blob.place.length)
placed_in_range pack offset (first ∷ items) each room =
    let whole = length-append first.bytes (blobs_of items) in
    let is : IsItem first = All-head IsItem first items each in
    All-cons (λ (b : PlacedBlob). IsWithin b.place.offset b.place.length) (placed_row pack offset (row_of first)) (placed_from pack (offset + length first.bytes) (map row_of items))
    (record { blob = is.0; ends = omega (arith, room, whole) })
    (placed_in_range pack (offset + length first.bytes) items (All-tail IsItem first items each) (omega (arith, room, whole)))

pub placed_within : (pack : Name) (rows : List Row) (blobs : List ℕ) (target : ℕ) (items : List Item) → IsFilled rows blobs target items
    → All (λ (blob : PlacedBlob). IsWithin blob.place.offset blob.place.length) (placed_from pack 0 (map row_of items))
placed_within pack rows blobs target items filled =
    let short = ap length filled.blobs_are in
    let room = filled.room in
    let high = filled.bounds.1 in
    placed_in_range pack 0 items filled.each (omega (arith, short, room, high))

-- one more blob
pub placed_more : (front : List PlacedBlob) (pack : Name) (offset : ℕ) (rows : List Row) (k : ℕ) (d : Row) → k < length rows
    → (front ++ placed_row pack offset (get_or rows k d) ∷ []) ++ placed_from pack (offset + (get_or rows k d).length) (drop (k + 1) rows) ≡ front ++ placed_from pack offset (drop k rows)
unfolding placed_from
placed_more front pack offset rows k d h =
    let row = get_or rows k d in
    append_assoc front (placed_row pack offset row ∷ []) (placed_from pack (offset + row.length) (drop (k + 1) rows))
    ∙ ap (λ t. front ++ placed_from pack offset t) (sym (drop_more rows k d h))

pub placed_end : (pack : Name) (offset : ℕ) (rows : List Row) (k : ℕ) → length rows ≤ k → placed_from pack offset (drop k rows) ≡ []
unfolding placed_from
placed_end pack offset rows k h = ap (placed_from pack offset) (drop_all k rows h)

-- ---- the last item

-- rows of items that end in one: the items do
pub ends_in : (rows : List Row) (row : Row) (items : List Item) → rows ++ row ∷ [] ≡ map row_of items
    → (front : List Item) × (item : Item) × (items ≡ front ++ item ∷ []) × (rows ≡ map row_of front) × (row ≡ row_of item)
ends_in [] row [] e = absurd (cc)
ends_in [] row (i ∷ []) e = ([], i, refl, refl, cc)
ends_in [] row (i ∷ j ∷ items) e = absurd (cc)
ends_in (r ∷ rows) row [] e = absurd (cc)
ends_in (r ∷ rows) row (i ∷ items) e =
    let tails : rows ++ row ∷ [] ≡ map row_of items = cc in
    let head : r ≡ row_of i = cc in
    let k = ends_in rows row items tails in
    (i ∷ k.0, k.1, ap (λ t. i ∷ t) k.2, (λ n. head n ∷ k.3 n), k.4)

take_front : (xs ys : List ℕ) → take (length xs) (xs ++ ys) ≡ xs
take_front [] ys = refl
take_front (x ∷ xs) ys = λ i. x ∷ take_front xs ys i

all_before : (P : Item → Type 0) (front : List Item) (item : Item) → All P (front ++ item ∷ []) → All P front
all_before P [] item h = All-nil P
all_before P (i ∷ front) item h = All-cons P i front (All-head P i (front ++ item ∷ []) h) (all_before P front item (All-tail P i (front ++ item ∷ []) h))

-- the bytes before the last item's
pub front_bytes : (front : List Item) (item : Item) → take (length (blobs_of (front ++ item ∷ [])) - length item.bytes) (blobs_of (front ++ item ∷ [])) ≡ blobs_of front
front_bytes front item =
    let both = blobs_of-push front item in
    let many : length (blobs_of (front ++ item ∷ [])) - length item.bytes ≡ length (blobs_of front) = omega (arith, ap length both, length-append (blobs_of front) item.bytes) in
    (λ i. take (many i) (both i)) ∙ take_front (blobs_of front) item.bytes

-- without the last item they are filled still
pub filled_pop : (rows : List Row) (blobs : List ℕ) (target : ℕ) (front : List Item) (item : Item) → rows ≡ map row_of front → blobs ≡ blobs_of front → (old : List Row) (whole : List ℕ)
    → IsFilled old whole target (front ++ item ∷ []) → IsFilled rows blobs target front
filled_pop rows blobs target front item r b old whole filled = record {
  bounds = filled.bounds;
  few = omega (arith, length_push front item, filled.few);
  room = omega (arith, filled.room, ap length b, ap length filled.blobs_are, ap length (blobs_of-push front item), length-append (blobs_of front) item.bytes);
  each = all_before IsItem front item filled.each;
  named = all_before IsNamed front item filled.named;
  rows_are = r;
  blobs_are = b;
}
