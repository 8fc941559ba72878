-- Windows of 64 bytes along a list, as bytes leave and others come.
use Rattle.std.proofs.Common.{◌≡◌, ℕ, ◌+◌, ◌-◌, ◌*◌, ◌%◌, ◌^◌, ◌<◌, ◌≤◌, inl, inr, List, [], ◌∷◌, ◌++◌, length, take, drop, get_or, min, refl, sym, ap, ◌∙◌, subst, arith}
use Rattle.std.specs.Prelude.{bit_and}
use Rattle.std.proofs.lemmas.Bool.{cases_lt}
use Rattle.std.proofs.lemmas.List.{length-drop, length-take, drop-drop, drop_at, drop_more, take_at, take_all, take_more, take-append-le, get_or-take, get_or-drop}
use Rattle.std.proofs.lemmas.Nat.{and_mask, one_shl}
use Rattle.repo_chunk.specs.Rabin.{remainder}
use Rattle.repo_chunk.specs.inner.Rolling.{window_at, IsMarkedAt, HasNoMarkBefore, IsRoll, IsFirstMark}
use Rattle.repo_chunk.specs.declared.rolling.Found.TheVariants.{Mark, NoMark}
use Rattle.repo_chunk.proofs.Linear.{remainder-lt}

-- the test of the low bits
pub mask_test : (n bits : ℕ) → bits ≤ 32 → bit_and n (1 * 2 ^ bits % 2 ^ 64 - 1) ≡ n % 2 ^ bits
mask_test n bits few = ap (λ m. bit_and n (m - 1)) (one_shl bits 64 (omega arith)) ∙ and_mask n bits

-- ---- one byte on

module _ (bytes leaving entering : List ℕ) (fingerprint i : ℕ) (roll : IsRoll bytes fingerprint leaving entering)
    (within : i < length entering) where
  present : 64 + i < length bytes
  present = omega (arith, ap length roll.enter, length-take (length entering) (drop 64 bytes), length-drop 64 bytes)

  middle : List ℕ
  middle = take 63 (drop (i + 1) bytes)

  middle_wide : length middle ≡ 63
  unfolding middle
  middle_wide = omega (arith, present, length-take 63 (drop (i + 1) bytes), length-drop (i + 1) bytes)

  window_here : window_at bytes i ≡ get_or leaving i 0 ∷ middle
  unfolding middle
  window_here =
      let oldest : get_or bytes i 0 ≡ get_or leaving i 0 =
      sym (ap (λ xs. get_or xs i 0) roll.leave ∙ get_or-take (length entering) bytes i 0 within) in
      ap (take 64) (drop_more bytes i 0 (omega (arith, present))) ∙ ap (λ b. b ∷ take 63 (drop (i + 1) bytes)) oldest

  window_next : window_at bytes (i + 1) ≡ middle ++ get_or entering i 0 ∷ []
  unfolding middle
  window_next =
      let place : i + 1 + 63 ≡ 64 + i = omega arith in
      let newest : get_or (drop (i + 1) bytes) 63 0 ≡ get_or entering i 0 =
      get_or-drop (i + 1) bytes 63 0 ∙ ap (λ k. get_or bytes k 0) place ∙ sym (get_or-drop 64 bytes i 0)
      ∙ sym (ap (λ xs. get_or xs i 0) roll.enter ∙ get_or-take (length entering) (drop 64 bytes) i 0 within) in
      take_more (drop (i + 1) bytes) 63 0 (omega (arith, present, length-drop (i + 1) bytes))
      ∙ ap (λ b. take 63 (drop (i + 1) bytes) ++ b ∷ []) newest

  pub rolls_on : (so_far next : ℕ) → so_far ≡ remainder (window_at bytes i)
      → ((m : List ℕ) → length m ≡ 63 → so_far ≡ remainder (get_or leaving i 0 ∷ m) → next ≡ remainder (m ++ get_or entering i 0 ∷ []))
      → next ≡ remainder (window_at bytes (i + 1))
  rolls_on so_far next is step =
      step middle middle_wide (is ∙ ap remainder window_here) ∙ ap remainder (sym window_next)

-- a place more without a mark
pub no_mark_more : (bits : ℕ) (bytes : List ℕ) (i next : ℕ) → HasNoMarkBefore bits bytes (i + 1)
    → next ≡ remainder (window_at bytes (i + 1)) → ¬ (next % 2 ^ bits ≡ 0) → HasNoMarkBefore bits bytes (i + 1 + 1)
no_mark_more bits bytes i next none is fails k some less marked = elim (cases_lt k (i + 1)) [
  | inl before ↦ none k some before marked
  | inr beyond ↦
      (let here : k ≡ i + 1 = omega arith in
      fails (ap (λ n. n % 2 ^ bits) (is ∙ ap (λ p. remainder (window_at bytes p)) (sym here)) ∙ marked))
]

-- ---- places of a list, and of the list from a place on

module _ (bits : ℕ) (bytes : List ℕ) (n : ℕ) (none : HasNoMarkBefore bits bytes (n + 1)) where
  window_past : (k : ℕ) → window_at (drop n bytes) k ≡ window_at bytes (n + k)
  window_past k = ap (take 64) (drop-drop k n bytes)

  pub marked_past : (k : ℕ) → IsMarkedAt bits (drop n bytes) k → IsMarkedAt bits bytes (n + k)
  marked_past k marked = ap (λ w. remainder w % 2 ^ bits) (sym (window_past k)) ∙ marked

  pub no_mark_past : (k : ℕ) → HasNoMarkBefore bits (drop n bytes) k → HasNoMarkBefore bits bytes (n + k)
  no_mark_past k far place some less marked = elim (cases_lt n place) [
    | inl beyond ↦
        (let split : n + (place - n) ≡ place = omega arith in
        far (place - n) (omega arith) (omega arith)
        (ap (λ w. remainder w % 2 ^ bits) (window_past (place - n) ∙ ap (window_at bytes) split) ∙ marked))
    | inr within ↦ none place some (omega arith) marked
  ]

-- ---- a window, and a piece behind it, in two parts

module _ (window piece near far : List ℕ) (n : ℕ) (wide : length window ≡ 64) (few : n ≡ min (length piece) 64)
    (front : near ≡ take n piece) (count : length near ≡ n) (back : far ≡ drop n piece) where
  -- the bytes of the window leave as those of the near part come
  pub near_roll : (fingerprint : ℕ) → fingerprint ≡ remainder window
      → IsRoll (window ++ piece) fingerprint (take (length near) window) near
  near_roll fingerprint is = record {
    first = is ∙ ap remainder (sym (take_at window piece 64 wide));
    leave = sym (take-append-le (length near) window piece (omega arith));
    enter = front ∙ ap (λ k. take k piece) (sym count) ∙ ap (take (length near)) (sym (drop_at window piece 64 wide));
  }

  behind : drop 64 (drop n (window ++ piece)) ≡ far
  behind =
      let turned : n + 64 ≡ 64 + n = omega arith in
      drop-drop 64 n (window ++ piece) ∙ ap (λ k. drop k (window ++ piece)) turned
      ∙ sym (drop-drop n 64 (window ++ piece)) ∙ ap (drop n) (drop_at window piece 64 wide) ∙ sym back

  -- then the first bytes of the piece leave as those of the far part come
  pub far_roll : (fingerprint : ℕ) → fingerprint ≡ remainder (window_at (window ++ piece) (length near))
      → IsRoll (drop n (window ++ piece)) fingerprint (take (length far) piece) far
  far_roll fingerprint is = record {
    first = is ∙ ap (λ k. remainder (window_at (window ++ piece) k)) count;
    leave = elim (cases_lt n 64) [
      | inl short ↦
          (let none : 0 ≡ length far = omega (arith, ap length back, length-drop n piece) in
          let Same : ℕ → Type 0 = λ k. take k piece ≡ take k (drop n (window ++ piece)) in
          subst Same none refl)
      | inr full ↦
          (let whole : n ≡ 64 = omega arith in
          ap (take (length far)) (sym (ap (λ k. drop k (window ++ piece)) whole ∙ drop_at window piece 64 wide)))
    ];
    enter = sym behind ∙ sym (take_all (length far) (drop 64 (drop n (window ++ piece))) (omega (arith, ap length behind)));
  }

  -- the places of both parts are those of the piece
  counts : length near + length far ≡ length piece
  counts = omega (arith, ap length back, length-drop n piece)

  module _ (bits fingerprint middle : ℕ) (is : fingerprint ≡ remainder window)
      (none : (bytes : List ℕ) → IsRoll bytes fingerprint (take (length near) window) near
      → HasNoMarkBefore bits bytes (length near + 1) × (middle ≡ remainder (window_at bytes (length near)))) where
    near_found : HasNoMarkBefore bits (window ++ piece) (length near + 1)
        × (middle ≡ remainder (window_at (window ++ piece) (length near)))
    near_found = none (window ++ piece) (near_roll fingerprint is)

    pub middle-lt : middle < 2 ^ 53
    middle-lt = omega (arith, near_found.1, remainder-lt (window_at (window ++ piece) (length near)))

    far_part : IsRoll (drop (length near) (window ++ piece)) middle (take (length far) piece) far
    far_part =
        let Part : ℕ → Type 0 = λ k. IsRoll (drop k (window ++ piece)) middle (take (length far) piece) far in
        subst Part (sym count) (far_roll middle near_found.1)

    -- the first mark is in the far part
    pub far_mark : (place : ℕ)
        → ((bytes : List ℕ) → IsRoll bytes middle (take (length far) piece) far → IsFirstMark bits bytes (length far) (Mark place))
        → IsFirstMark bits (window ++ piece) (length piece) (Mark (length near + place))
    far_mark place search_far =
        let found = search_far (drop (length near) (window ++ piece)) far_part in (
          omega (arith, found.0),
          omega (arith, found.1, counts),
          marked_past bits (window ++ piece) (length near) near_found.0 place found.2,
          no_mark_past bits (window ++ piece) (length near) near_found.0 place found.3,
        )

    -- there is none in either
    pub no_mark : (end : ℕ)
        → ((bytes : List ℕ) → IsRoll bytes middle (take (length far) piece) far → IsFirstMark bits bytes (length far) (NoMark end))
        → IsFirstMark bits (window ++ piece) (length piece) (NoMark end)
    no_mark end search_far =
        let found = search_far (drop (length near) (window ++ piece)) far_part in
        let all : length near + (length far + 1) ≡ length piece + 1 = omega (arith, counts) in (
          (let None : ℕ → Type 0 = λ k. HasNoMarkBefore bits (window ++ piece) k in
              subst None all (no_mark_past bits (window ++ piece) (length near) near_found.0 (length far + 1) found.0)),
          found.1 ∙ ap remainder (window_past bits (window ++ piece) (length near) near_found.0 (length far))
              ∙ ap (λ k. remainder (window_at (window ++ piece) k)) counts,
        )
