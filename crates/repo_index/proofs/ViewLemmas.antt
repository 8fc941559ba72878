-- The facts of a pack's blobs, one after another.
use Rattle.std.proofs.Common.{◌≡◌, ◌<◌, ◌+◌, ◌^◌, ◌⊎◌, ◌++◌, ◌∷◌, [], ℕ, zero, suc, List, length, Some, refl, ap, sym, ◌∙◌, subst, inl, inr, length-append, arith}
use Rattle.std.specs.Prelude.{slice_get, IsSomeAnd}
use Rattle.std.proofs.lemmas.Option.{slice_get_within}
use Rattle.repo_name.specs.declared.names.Name.{Name}
use Rattle.repo_pack.specs.PackLayout.{Item, blobs_of, offset_of}
use Rattle.repo_pack.specs.PackReading.{entry_of}
use Rattle.repo_pack.specs.declared.places.Entry.{Entry}
use Rattle.repo_pack.proofs.Offsets.{blob_fits}
use Rattle.repo_pack.proofs.ViewLemmas.{found_at, some_at}
use Rattle.repo_index.specs.Exactness.{fact_at, AreFactsAt}
use Rattle.repo_index.specs.declared.facts.Fact.{Fact}

-- what an entry tells of the item at a place
abbrev pub Tells : List Item → ℕ → Entry → Type 0
Tells items place entry = IsSomeAnd (slice_get items place) (λ item. entry ≡ entry_of item (offset_of items place))

-- these are the facts of the first items, so many
pub record AreFirst (pack : Name) (items : List Item) (facts : List Fact) (n : ℕ) : Type 0 where
  pub count : length facts ≡ n
  pub each : (k : ℕ) (item : Item) → k < n → slice_get items k ≡ Some item → slice_get facts k ≡ Some (fact_at pack items k item)

-- an offset in a short pack is a number of 32 bits
pub offset_fits : (items : List Item) (place : ℕ) (entry : Entry) → place < length items → Tells items place entry → length (blobs_of items) < 2 ^ 32
    → entry.offset < 2 ^ 32
offset_fits items place entry lt tells short =
    let item = found_at items place lt in
    let is = some_at (slice_get items place) item.0 (λ (i : Item). entry ≡ entry_of i (offset_of items place)) item.1 tells in
    let offset : entry.offset ≡ offset_of items place = ap (λ (e : Entry). e.offset) is in
    omega (arith, offset, blob_fits items place item.0 item.1, short)

get_front : {X : Type 0} (xs ys : List X) (k : ℕ) → k < length xs → slice_get (xs ++ ys) k ≡ slice_get xs k
get_front [] ys k h = absurd (omega (arith, h))
get_front (x ∷ xs) ys zero h = refl
get_front (x ∷ xs) ys (suc k) h = get_front xs ys k (omega (arith, h))

get_end : {X : Type 0} (xs : List X) (y : X) → slice_get (xs ++ y ∷ []) (length xs) ≡ Some y
get_end [] y = refl
get_end (x ∷ xs) y = get_end xs y

last_or_before : (k n : ℕ) → k < n + 1 → (k < n) ⊎ (k ≡ n)
last_or_before zero zero h = inr refl
last_or_before zero (suc n) h = inl (omega arith)
last_or_before (suc k) zero h = absurd (omega (arith, h))
last_or_before (suc k) (suc n) h = elim (last_or_before k n (omega (arith, h))) [ inl l ↦ inl (omega (arith, l)) | inr e ↦ inr (ap suc e) ]

pub first_none : (pack : Name) (items : List Item) (facts : List Fact) → facts ≡ [] → AreFirst pack items facts 0
first_none pack items facts none = record { count = ap length none; each = λ k item lt found. absurd (omega (arith, lt)) }

-- the fact of one item more
pub first_more : (pack : Name) (items : List Item) (facts new : List Fact) (n : ℕ) (entry : Entry) → AreFirst pack items facts n → n < length items
    → Tells items n entry
    → new ≡ facts ++ record { kind = entry.kind; name = entry.name; place = record { pack = pack; offset = entry.offset; length = entry.length } } ∷ []
    → AreFirst pack items new (n + 1)
first_more pack items facts new n entry are lt tells pushed =
    let item = found_at items n lt in
    let is = some_at (slice_get items n) item.0 (λ (i : Item). entry ≡ entry_of i (offset_of items n)) item.1 tells in
    let fact : Fact = record { kind = entry.kind; name = entry.name; place = record { pack = pack; offset = entry.offset; length = entry.length } } in
    let same : fact ≡ fact_at pack items n item.0 =
    λ i. record { kind = (is i).kind; name = (is i).name; place = record { pack = pack; offset = (is i).offset; length = (is i).length } } in
    let count = are.count in
    let end : slice_get (facts ++ fact ∷ []) n ≡ Some fact = subst (λ (m : ℕ). slice_get (facts ++ fact ∷ []) m ≡ Some fact) count (get_end facts fact) in
    subst (λ (fs : List Fact). AreFirst pack items fs (n + 1)) (sym pushed) (record {
      count = omega (arith, count, length-append facts (fact ∷ []));
      each = λ k other before found. elim (last_or_before k n before) [
        | inl l ↦ get_front facts (fact ∷ []) k (omega (arith, l, count)) ∙ are.each k other l found
        | inr e ↦
            let there : slice_get items n ≡ Some other = ap (slice_get items) (sym e) ∙ found in
            let one : item.0 ≡ other = cc (item.1, there) in
            subst (λ (m : ℕ). slice_get (facts ++ fact ∷ []) m ≡ Some (fact_at pack items m other)) (sym e)
            (end ∙ ap Some same ∙ ap (λ (i : Item). Some (fact_at pack items n i)) one)
      ];
    })

-- the facts of all
pub first_all : (pack : Name) (items : List Item) (facts : List Fact) (n : ℕ) → AreFirst pack items facts n → n ≡ length items → AreFactsAt pack items facts
first_all pack items facts n are all = record {
  count = are.count ∙ all;
  each = λ k item found. are.each k item (let within = slice_get_within items k item found in omega (arith, within, all)) found;
}
