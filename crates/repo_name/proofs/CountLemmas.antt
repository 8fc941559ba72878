-- Things in bytes, one after another and behind their count.
use Rattle.std.proofs.Common.{◌≡◌, ◌≢◌, ◌++◌, ◌∷◌, [], ◌+◌, ◌<◌, ◌≤◌, ◌^◌, ℕ, List, length, refl, sym, ap, arith, ◌∙◌, append_assoc, append-nil, get_or, take}
use Rattle.std.specs.List.{flat_map, All}
use Rattle.std.specs.Int.{w16, from_be_bytes}
use Rattle.std.proofs.lemmas.List.Elements.{All-head, All-tail}
use Rattle.std.proofs.lemmas.List.{flat_map_more, take_more}
use Rattle.std.proofs.lemmas.Nat.{from_be_bytes-to_be_bytes_2}
use Rattle.repo_name.specs.Rows.{count}
use Rattle.repo_name.proofs.RowLemmas.{fronts_are_one}

-- one more of some things in bytes, as a loop appends them
pub flat_map-take_more : {X : Type 0} → (bytes : X → List ℕ) (front : List ℕ) (xs : List X) (i : ℕ) (x : X) → i < length xs → x ≡ get_or xs i x
    → front ++ flat_map bytes (take (i + 1) xs) ≡ (front ++ flat_map bytes (take i xs)) ++ bytes x
flat_map-take_more bytes front xs i x l e =
    ap (λ ys. front ++ flat_map bytes ys) (take_more xs i x l ∙ ap (λ y. take i xs ++ y ∷ []) (sym e)) ∙ sym (flat_map_more bytes front (take i xs) x)

-- one more of some things in bytes, as a loop reads them
pub flat_map-push : {X : Type 0} → (bytes : X → List ℕ) (xs : List X) (x : X) (all rest after : List ℕ) → all ≡ flat_map bytes xs ++ rest → rest ≡ bytes x ++ after
    → all ≡ flat_map bytes (xs ++ x ∷ []) ++ after
flat_map-push bytes xs x all rest after h e =
    h ∙ ap (λ r. flat_map bytes xs ++ r) e ∙ sym (append_assoc (flat_map bytes xs) (bytes x) after)
    ∙ ap (λ r. r ++ after) (flat_map_more bytes [] xs x)

-- counts in bytes read in one way, whatever follows them
pub counts_one : (a b : ℕ) (x y : List ℕ) → a < 2 ^ 16 → b < 2 ^ 16 → count a ++ x ≡ count b ++ y → (a ≡ b) × (x ≡ y)
counts_one a b x y la lb h =
    let f = fronts_are_one (count a) (count b) x y refl h in
    (sym (from_be_bytes-to_be_bytes_2 a la) ∙ ap (from_be_bytes w16) f.0 ∙ from_be_bytes-to_be_bytes_2 b lb, f.1)

-- of things in bytes that read in one way: where some were read, longer ones begin with them, and what follows is the rest of them
module _ {X : Type 0} (bytes : X → List ℕ) (Is : X → Type 0) (one : (a b : X) (x y : List ℕ) → Is a → Is b → bytes a ++ x ≡ bytes b ++ y → (a ≡ b) × (x ≡ y)) where
  -- of lists whose bytes are equal up to what follows, the longer one begins with the shorter
  pub rest_of : (xs ys : List X) (u v : List ℕ) → All Is xs → All Is ys → length xs ≤ length ys → flat_map bytes xs ++ u ≡ flat_map bytes ys ++ v
      → (zs : List X) × (ys ≡ xs ++ zs) × (u ≡ flat_map bytes zs ++ v) × All Is zs
  rest_of [] ys u v ax ay l h = (ys, refl, h, ay)
  rest_of (x ∷ xs) [] u v ax ay l h = absurd (omega arith)
  rest_of (x ∷ xs) (y ∷ ys) u v ax ay l h =
      let split : bytes x ++ (flat_map bytes xs ++ u) ≡ bytes y ++ (flat_map bytes ys ++ v) =
      sym (append_assoc (bytes x) (flat_map bytes xs) u) ∙ h ∙ append_assoc (bytes y) (flat_map bytes ys) v in
      let first = one x y (flat_map bytes xs ++ u) (flat_map bytes ys ++ v) (All-head Is x xs ax) (All-head Is y ys ay) split in
      let rest = rest_of xs ys u v (All-tail Is x xs ax) (All-tail Is y ys ay) (omega arith) first.1 in
      (rest.0, λ i. sym first.0 i ∷ rest.1 i, rest.2, rest.3)

  -- so many things in bytes read in one way, whatever follows them
  pub all_one : (xs ys : List X) (u v : List ℕ) → All Is xs → All Is ys → length xs ≡ length ys → flat_map bytes xs ++ u ≡ flat_map bytes ys ++ v → (xs ≡ ys) × (u ≡ v)
  all_one [] [] u v ax ay l h = (refl, h)
  all_one [] (y ∷ ys) u v ax ay l h = absurd (omega arith)
  all_one (x ∷ xs) [] u v ax ay l h = absurd (omega arith)
  all_one (x ∷ xs) (y ∷ ys) u v ax ay l h =
      let split : bytes x ++ (flat_map bytes xs ++ u) ≡ bytes y ++ (flat_map bytes ys ++ v) =
      sym (append_assoc (bytes x) (flat_map bytes xs) u) ∙ h ∙ append_assoc (bytes y) (flat_map bytes ys) v in
      let first = one x y (flat_map bytes xs ++ u) (flat_map bytes ys ++ v) (All-head Is x xs ax) (All-head Is y ys ay) split in
      let rest = all_one xs ys u v (All-tail Is x xs ax) (All-tail Is y ys ay) (omega arith) first.1 in
      (λ i. first.0 i ∷ rest.0 i, rest.1)

  -- what is left of the longer one would stand next
  one_more : (xs ys zs : List X) (u v : List ℕ) → ((x : X) (v : List ℕ) → Is x → u ≢ bytes x ++ v) → length xs < length ys
      → ys ≡ xs ++ zs → u ≡ flat_map bytes zs ++ v → All Is zs → ⊥
  one_more xs ys [] u v none l e h az = let same = ap length (e ∙ append-nil xs) in absurd (omega arith)
  one_more xs ys (z ∷ zs) u v none l e h az = none z (flat_map bytes zs ++ v) (All-head Is z zs az) (h ∙ append_assoc (bytes z) (flat_map bytes zs) v)

  -- where fewer than so many were read, and no thing stands next, so many stand nowhere
  pub too_few : (xs : List X) (u : List ℕ) → All Is xs → ((x : X) (v : List ℕ) → Is x → u ≢ bytes x ++ v)
      → (ys : List X) (v : List ℕ) → length xs < length ys → All Is ys → flat_map bytes xs ++ u ≢ flat_map bytes ys ++ v
  too_few xs u ax none ys v l ay h =
      let rest = rest_of xs ys u v ax ay (omega arith) h in
      one_more xs ys rest.0 u v none l rest.1 rest.2 rest.3

  -- so many things behind their count
  pub counted_one : (xs ys : List X) (u v : List ℕ) → length xs < 2 ^ 16 → length ys < 2 ^ 16 → All Is xs → All Is ys
      → (count (length xs) ++ flat_map bytes xs) ++ u ≡ (count (length ys) ++ flat_map bytes ys) ++ v → (xs ≡ ys) × (u ≡ v)
  counted_one xs ys u v lx ly ax ay h =
      let split : count (length xs) ++ (flat_map bytes xs ++ u) ≡ count (length ys) ++ (flat_map bytes ys ++ v) =
      sym (append_assoc (count (length xs)) (flat_map bytes xs) u) ∙ h ∙ append_assoc (count (length ys)) (flat_map bytes ys) v in
      let c = counts_one (length xs) (length ys) (flat_map bytes xs ++ u) (flat_map bytes ys ++ v) lx ly split in
      all_one xs ys u v ax ay c.0 c.1

  -- so many things behind their count, with nothing after them
  pub counted_alone : (xs ys : List X) → length xs < 2 ^ 16 → length ys < 2 ^ 16 → All Is xs → All Is ys
      → count (length xs) ++ flat_map bytes xs ≡ count (length ys) ++ flat_map bytes ys → xs ≡ ys
  counted_alone xs ys lx ly ax ay h =
      let front = count (length xs) ++ flat_map bytes xs in
      let back = count (length ys) ++ flat_map bytes ys in
      (counted_one xs ys [] [] lx ly ax ay (append-nil front ∙ h ∙ sym (append-nil back))).0
