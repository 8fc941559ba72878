-- Whether a pack's blobs have the names that its entries give them.
use Rattle.std.proofs.Common.{◌≡◌, ◌<◌, ◌+◌, ◌*◌, ◌/◌, ℕ, List, [], ◌∷◌, length, drop, map, get_or, ◌++◌, refl, sym, ap, ◌∙◌, arith}
use Rattle.std.specs.Prelude.{◌↔◌}
use Rattle.std.specs.List.{All, AllByRecursion}
use Rattle.std.proofs.lemmas.List.{take_at, drop_at, map-append, length-map, get_or-map}
use Rattle.std.proofs.lemmas.List.Elements.{recursion_from_All, All-from_recursion}
use Rattle.repo_name.specs.Naming as naming
use Rattle.repo_sha.specs.Pieces.{pieces}
use Rattle.repo_sha.proofs.PieceLemmas.{length-pieces}
use Rattle.repo_pack.specs.declared.rows.Row.{Row}
use Rattle.repo_pack.specs.PackLayout.{Item, IsItem, IsNamed, blobs_of}
use Rattle.repo_pack.specs.PackReading.{row_in, rows_in, header_rows, IsLaidOut}
use Rattle.repo_pack.specs.PackWriting.{row_of}
use Rattle.repo_pack.proofs.Packs.{rows_are}
use Rattle.repo_pack.proofs.RowLemmas.{rows_in_more, length-rows_in, get_or-rows_in}

-- the digest of some bytes: what their name holds
abbrev pub digest : List ℕ → List ℕ
digest bytes = (naming.name bytes).0

-- something of each of the first entries, one entry on
pub map-rows_in_more : {X : Type 0} (f : Row → X) (n : ℕ) (header : List ℕ) → map f (rows_in (n + 1) header) ≡ map f (rows_in n header) ++ f (row_in (drop (37 * n) header)) ∷ []
map-rows_in_more f n header = ap (map f) (rows_in_more n header) ∙ map-append f (rows_in n header) (row_in (drop (37 * n) header) ∷ [])

-- something of an entry that is among the first
pub get_or-map-rows_in : {X : Type 0} (f : Row → X) (n k : ℕ) (header : List ℕ) (d : X) → k < n → get_or (map f (rows_in n header)) k d ≡ f (row_in (drop (37 * k) header))
get_or-map-rows_in f n k header d lt =
    let row = row_in header in
    get_or-map f (rows_in n header) k row d (omega (arith, length-rows_in n header)) ∙ ap f (get_or-rows_in n k header row lt)

-- the pieces of the items' bytes, by the lengths in their entries
pieces-blobs_of : (items : List Item) → pieces (blobs_of items) (map (λ (row : Row). row.length) (map row_of items)) ≡ map (λ (item : Item). item.bytes) items
pieces-blobs_of [] = refl
pieces-blobs_of (item ∷ items) =
    let lengths = map (λ (row : Row). row.length) (map row_of items) in
    let first = take_at item.bytes (blobs_of items) (length item.bytes) refl in
    let rest = ap (λ bytes. pieces bytes lengths) (drop_at item.bytes (blobs_of items) (length item.bytes) refl) ∙ pieces-blobs_of items in
    λ i. first i ∷ rest i

abbrev names_of : List Item → List (List ℕ)
names_of items = map (λ (row : Row). row.name.0) (map row_of items)

abbrev digests_of : List Item → List (List ℕ)
digests_of items = map digest (map (λ (item : Item). item.bytes) items)

each_named : (items : List Item) → names_of items ≡ digests_of items → AllByRecursion IsNamed items
each_named [] same = tt
each_named (item ∷ items) same =
    let first : item.name.0 ≡ digest item.bytes = cc in
    let rest : names_of items ≡ digests_of items = cc in
    (λ i. record { 0 = first i }, each_named items rest)

names_same : (items : List Item) → AllByRecursion IsNamed items → names_of items ≡ digests_of items
names_same [] each = refl
names_same (item ∷ items) each = λ i. (each.0 i).0 ∷ names_same items each.1 i

module _ (header blobs : List ℕ) (items : List Item) (laid : IsLaidOut header blobs items) (lengths : List ℕ) (digests : List (List ℕ))
    (lengths_are : lengths ≡ map (λ (row : Row). row.length) (header_rows header)) (digests_are : digests ≡ map digest (pieces blobs lengths)) where
  rows_there : header_rows header ≡ map row_of items
  rows_there = ap header_rows laid.header_is ∙ rows_are items (recursion_from_All IsItem items laid.each)

  digests_there : digests ≡ digests_of items
  digests_there =
      digests_are
      ∙ ap (λ (ls : List ℕ). map digest (pieces blobs ls)) (lengths_are ∙ ap (map (λ (row : Row). row.length)) rows_there)
      ∙ ap (λ (bytes : List ℕ). map digest (pieces bytes (map (λ (row : Row). row.length) (map row_of items)))) laid.blobs_is
      ∙ ap (map digest) (pieces-blobs_of items)

  -- there is a digest for each entry
  pub count_told : length digests ≡ length header / 37
  count_told =
      ap length digests_are ∙ length-map (pieces blobs lengths) digest ∙ length-pieces blobs lengths ∙ ap length lengths_are
      ∙ length-map (header_rows header) (λ (row : Row). row.length) ∙ length-rows_in (length header / 37) header

  -- the entries' names are the digests where each blob has its name
  pub names_told : (map (λ (row : Row). row.name.0) (header_rows header) ≡ digests) ↔ All IsNamed items
  names_told =
      let named = ap (map (λ (row : Row). row.name.0)) rows_there in (
        λ same. All-from_recursion IsNamed items (each_named items (sym named ∙ same ∙ digests_there)),
        λ each. named ∙ names_same items (recursion_from_All IsNamed items each) ∙ sym digests_there,
      )
