-- The remainder is linear over exclusive or, and what that makes of a window that moves on.
use Rattle.std.proofs.Common.{◌≡◌, ℕ, zero, suc, ◌+◌, ◌*◌, ◌/◌, ◌%◌, ◌^◌, ◌<◌, ◌⊎◌, inl, inr, List, [], ◌∷◌, ◌++◌, map, length, refl, sym, ap, ◌∙◌, subst, arith}
use Rattle.std.specs.Prelude.{fold, bit_xor, replicate}
use Rattle.std.specs.Int.{bit_at}
use Rattle.std.specs.Int.Bits.{xor_self, xor_zero_l, xor_zero_r}
use Rattle.std.specs.List.{flat_map}
use Rattle.std.proofs.lemmas.List.{length-append}
use Rattle.std.proofs.lemmas.List.Sums.{fold-append}
use Rattle.std.proofs.lemmas.Nat.{xor_block, xor_comm}
use Rattle.std.proofs.lemmas.Nat.Bits.{bit_at_xor, bit_at-zero, bit_at-lt, bit_at_above, same_from_bits}
use Rattle.repo_chunk.specs.Rabin.{polynomial, bits_of, reduce, step, remainder}
use Rattle.repo_chunk.specs.inner.Tables.{with_byte, high_part, leaving_part}
use Rattle.repo_chunk.proofs.Bits.{xor_polynomial-lt}

-- ---- exclusive or

xor_assoc : (a b c : ℕ) → bit_xor (bit_xor a b) c ≡ bit_xor a (bit_xor b c)
xor_assoc a b c = same_from_bits _ _ (λ i.
    bit_at_xor (bit_xor a b) c i ∙ ap (λ n. (n + bit_at c i) % 2) (bit_at_xor a b i)
    ∙ turned (bit_at a i) (bit_at b i) (bit_at c i)
    ∙ sym (bit_at_xor a (bit_xor b c) i ∙ ap (λ n. (bit_at a i + n) % 2) (bit_at_xor b c i)))
  where
    turned : (x y z : ℕ) → ((x + y) % 2 + z) % 2 ≡ (x + (y + z) % 2) % 2
    turned x y z = omega arith

-- what is added twice is gone
xor_twice : (a b : ℕ) → bit_xor (bit_xor a b) b ≡ a
xor_twice a b = xor_assoc a b b ∙ ap (bit_xor a) (xor_self b) ∙ xor_zero_r a

-- the middle two of four change places
xor_middle : (a b p : ℕ) → bit_xor (bit_xor a p) b ≡ bit_xor (bit_xor a b) p
xor_middle a b p = xor_assoc a p b ∙ ap (bit_xor a) (xor_comm p b) ∙ sym (xor_assoc a b p)

-- ---- one step

reduce_top : (n : ℕ) → bit_at n 53 ≡ 1 → reduce n ≡ bit_xor n polynomial
reduce_top n top = rw top refl

reduce_low : (n : ℕ) → bit_at n 53 ≡ 0 → reduce n ≡ n
reduce_low n low = rw low refl

zero_or_one : (b : ℕ) → b < 2 → (b ≡ 0) ⊎ (b ≡ 1)
zero_or_one zero small = inl refl
zero_or_one (suc zero) small = inr refl
zero_or_one (suc (suc b)) small = absurd (omega arith)

reduce_xor : (m n : ℕ) → reduce (bit_xor m n) ≡ bit_xor (reduce m) (reduce n)
reduce_xor m n = elim (bit m) [
  | inl low ↦ elim (bit n) [
    | inl none ↦ reduce_low _ (top ∙ simp (low, none)) ∙ sym (cc (reduce_low m low, reduce_low n none))
    | inr high ↦ reduce_top _ (top ∙ simp (low, high)) ∙ xor_assoc m n polynomial
        ∙ sym (cc (reduce_low m low, reduce_top n high))
  ]
  | inr up ↦ elim (bit n) [
    | inl none ↦ reduce_top _ (top ∙ simp (up, none)) ∙ sym (xor_middle m n polynomial)
        ∙ sym (cc (reduce_top m up, reduce_low n none))
    | inr high ↦ reduce_low _ (top ∙ simp (up, high)) ∙ sym (both m n polynomial)
        ∙ sym (cc (reduce_top m up, reduce_top n high))
  ]
]
  where
    bit : (k : ℕ) → (bit_at k 53 ≡ 0) ⊎ (bit_at k 53 ≡ 1)
    bit k = zero_or_one (bit_at k 53) (bit_at-lt k 53)

    top : bit_at (bit_xor m n) 53 ≡ (bit_at m 53 + bit_at n 53) % 2
    top = bit_at_xor m n 53

    both : (a b p : ℕ) → bit_xor (bit_xor a p) (bit_xor b p) ≡ bit_xor a b
    both a b p = sym (xor_assoc (bit_xor a p) b p) ∙ ap (λ x. bit_xor x p) (xor_middle a b p) ∙ xor_twice (bit_xor a b) p

double_xor : (m n bit : ℕ) → bit < 2 → 2 * bit_xor m n + bit ≡ bit_xor (2 * m + bit) (2 * n + 0)
double_xor m n bit small =
    let back : bit_xor m n * 2 ^ 1 + bit_xor bit 0 ≡ 2 * bit_xor m n + bit = omega (arith, xor_zero_r bit) in
    let left : m * 2 ^ 1 + bit ≡ 2 * m + bit = omega arith in
    let right : n * 2 ^ 1 + 0 ≡ 2 * n + 0 = omega arith in
    sym back ∙ sym (xor_block 1 m n bit 0 (omega arith) (omega arith))
    ∙ ap (λ k. bit_xor k (n * 2 ^ 1 + 0)) left ∙ ap (bit_xor (2 * m + bit)) right

step_xor : (m n bit : ℕ) → bit < 2 → step (bit_xor m n) bit ≡ bit_xor (step m bit) (step n 0)
step_xor m n bit small = ap reduce (double_xor m n bit small) ∙ reduce_xor (2 * m + bit) (2 * n + 0)

step_lt : (n bit : ℕ) → n < 2 ^ 53 → bit < 2 → step n bit < 2 ^ 53
step_lt n bit below small = elim (zero_or_one (bit_at (2 * n + bit) 53) (bit_at-lt (2 * n + bit) 53)) [
  | inl low ↦ subst Below (sym (reduce_low (2 * n + bit) low)) (omega arith)
  | inr top ↦ subst Below (sym (reduce_top (2 * n + bit) top)) (xor_polynomial-lt (2 * n + bit) (omega arith) top)
]
  where
    Below : ℕ → Type 0
    Below k = k < 2 ^ 53

-- ---- the bits of a byte

places_xor : (byte : ℕ) (places : List ℕ) (m n : ℕ)
    → fold step (bit_xor m n) (map (bit_at byte) places)
    ≡ bit_xor (fold step m (map (bit_at byte) places)) (fold step n (map (bit_at 0) places))
places_xor byte [] m n = refl
places_xor byte (place ∷ places) m n =
    let one : step (bit_xor m n) (bit_at byte place) ≡ bit_xor (step m (bit_at byte place)) (step n (bit_at 0 place)) =
    step_xor m n (bit_at byte place) (bit_at-lt byte place)
    ∙ ap (λ b. bit_xor (step m (bit_at byte place)) (step n b)) (sym (bit_at-zero place)) in
    ap (λ s. fold step s (map (bit_at byte) places)) one
    ∙ places_xor byte places (step m (bit_at byte place)) (step n (bit_at 0 place))

places_lt : (byte : ℕ) (places : List ℕ) (n : ℕ) → n < 2 ^ 53 → fold step n (map (bit_at byte) places) < 2 ^ 53
places_lt byte [] n below = below
places_lt byte (place ∷ places) n below =
    places_lt byte places (step n (bit_at byte place)) (step_lt n (bit_at byte place) below (bit_at-lt byte place))

-- ---- one byte

pub with_byte-xor : (m n byte : ℕ) → with_byte (bit_xor m n) byte ≡ bit_xor (with_byte m byte) (with_byte n 0)
unfolding with_byte
with_byte-xor m n byte = places_xor byte (7 ∷ 6 ∷ 5 ∷ 4 ∷ 3 ∷ 2 ∷ 1 ∷ 0 ∷ []) m n

pub with_byte-lt : (n byte : ℕ) → n < 2 ^ 53 → with_byte n byte < 2 ^ 53
unfolding with_byte
with_byte-lt n byte below = places_lt byte (7 ∷ 6 ∷ 5 ∷ 4 ∷ 3 ∷ 2 ∷ 1 ∷ 0 ∷ []) n below

-- ---- many bytes

steps_are : (bytes : List ℕ) (start : ℕ) → fold step start (flat_map bits_of bytes) ≡ fold with_byte start bytes
unfolding with_byte
steps_are [] start = refl
steps_are (byte ∷ bytes) start =
    fold-append step start (bits_of byte) (flat_map bits_of bytes) ∙ steps_are bytes (fold step start (bits_of byte))

pub remainder_is : (bytes : List ℕ) → remainder bytes ≡ fold with_byte 0 bytes
unfolding remainder
remainder_is bytes = steps_are bytes 0

pub fold-lt : (bytes : List ℕ) (start : ℕ) → start < 2 ^ 53 → fold with_byte start bytes < 2 ^ 53
fold-lt [] start below = below
fold-lt (byte ∷ bytes) start below = fold-lt bytes (with_byte start byte) (with_byte-lt start byte below)

pub remainder-lt : (bytes : List ℕ) → remainder bytes < 2 ^ 53
remainder-lt bytes = rw (remainder_is bytes) (fold-lt bytes 0 (omega arith))

-- the remainder of bytes that go on
pub remainder-append : (front bytes : List ℕ) → remainder (front ++ bytes) ≡ fold with_byte (remainder front) bytes
remainder-append front bytes =
    remainder_is (front ++ bytes) ∙ fold-append with_byte 0 front bytes
    ∙ ap (λ s. fold with_byte s bytes) (sym (remainder_is front))

fold_xor : (bytes : List ℕ) (m n : ℕ)
    → fold with_byte (bit_xor m n) bytes ≡ bit_xor (fold with_byte m bytes) (fold with_byte n (replicate (length bytes) 0))
fold_xor [] m n = refl
fold_xor (byte ∷ bytes) m n =
    ap (λ s. fold with_byte s bytes) (with_byte-xor m n byte) ∙ fold_xor bytes (with_byte m byte) (with_byte n 0)

-- ---- the window moves on

-- a byte in front of others adds what it would add in front of zeros
front_parts : (oldest : ℕ) (bytes : List ℕ)
    → remainder (oldest ∷ bytes) ≡ bit_xor (remainder bytes) (remainder (oldest ∷ replicate (length bytes) 0))
front_parts oldest bytes =
    remainder_is (oldest ∷ bytes)
    ∙ ap (λ s. fold with_byte s bytes) (sym (xor_zero_l (with_byte 0 oldest)))
    ∙ fold_xor bytes 0 (with_byte 0 oldest)
    ∙ ap (λ r. bit_xor r (fold with_byte (with_byte 0 oldest) (replicate (length bytes) 0))) (sym (remainder_is bytes))
    ∙ ap (bit_xor (remainder bytes)) (sym (remainder_is (oldest ∷ replicate (length bytes) 0)))

-- the oldest byte of a window goes, and a newest one comes
pub window_moves : (oldest : ℕ) (middle : List ℕ) (newest : ℕ) → length middle ≡ 63
    → bit_xor (with_byte (remainder (oldest ∷ middle)) newest) (leaving_part oldest) ≡ remainder (middle ++ newest ∷ [])
unfolding leaving_part
window_moves oldest middle newest wide =
    let count : length (middle ++ newest ∷ []) ≡ 64 = length-append middle (newest ∷ []) ∙ ap (λ n. n + 1) wide in
    let longer : with_byte (remainder (oldest ∷ middle)) newest ≡ remainder (oldest ∷ (middle ++ newest ∷ [])) =
    sym (remainder-append (oldest ∷ middle) (newest ∷ [])) in
    ap (λ r. bit_xor r (remainder (oldest ∷ replicate 64 0)))
    (longer ∙ front_parts oldest (middle ++ newest ∷ [])
    ∙ ap (λ n. bit_xor (remainder (middle ++ newest ∷ [])) (remainder (oldest ∷ replicate n 0))) count)
    ∙ xor_twice (remainder (middle ++ newest ∷ [])) (remainder (oldest ∷ replicate 64 0))

-- ---- a remainder by its high and low bits

step_low : (n bit : ℕ) → n < 2 ^ 52 → bit < 2 → step n bit ≡ 2 * n + bit
step_low n bit below small = reduce_low (2 * n + bit) (bit_at_above (2 * n + bit) 53 53 (omega arith) (omega arith))

-- eight steps that only double and add
doubled : (f : ℕ → ℕ → ℕ) → ((n bit : ℕ) → n < 2 ^ 52 → bit < 2 → f n bit ≡ 2 * n + bit)
    → (low : ℕ) → low < 2 ^ 45 → (b7 b6 b5 b4 b3 b2 b1 b0 : ℕ)
    → b7 < 2 → b6 < 2 → b5 < 2 → b4 < 2 → b3 < 2 → b2 < 2 → b1 < 2 → b0 < 2
    → f (f (f (f (f (f (f (f low b7) b6) b5) b4) b3) b2) b1) b0
    ≡ low * 256 + (b7 * 128 + b6 * 64 + b5 * 32 + b4 * 16 + b3 * 8 + b2 * 4 + b1 * 2 + b0)
doubled f h low below b7 b6 b5 b4 b3 b2 b1 b0 l7 l6 l5 l4 l3 l2 l1 l0 =
    let e7 = h low b7 (omega arith) l7 in
    let e6 = h (f low b7) b6 (omega arith) l6 in
    let e5 = h (f (f low b7) b6) b5 (omega arith) l5 in
    let e4 = h (f (f (f low b7) b6) b5) b4 (omega arith) l4 in
    let e3 = h (f (f (f (f low b7) b6) b5) b4) b3 (omega arith) l3 in
    let e2 = h (f (f (f (f (f low b7) b6) b5) b4) b3) b2 (omega arith) l2 in
    let e1 = h (f (f (f (f (f (f low b7) b6) b5) b4) b3) b2) b1 (omega arith) l1 in
    let e0 = h (f (f (f (f (f (f (f low b7) b6) b5) b4) b3) b2) b1) b0 (omega arith) l0 in
    omega arith

-- a byte is the sum of its bits
bits_make : (n : ℕ) → n < 256
    → bit_at n 7 * 128 + bit_at n 6 * 64 + bit_at n 5 * 32 + bit_at n 4 * 16 + bit_at n 3 * 8 + bit_at n 2 * 4 + bit_at n 1 * 2
    + bit_at n 0 ≡ n
bits_make n small = omega arith

-- the low bits are only moved
with_byte-low : (low byte : ℕ) → low < 2 ^ 45 → byte < 256 → with_byte low byte ≡ low * 256 + byte
unfolding with_byte
with_byte-low low byte below small =
    doubled step step_low low below (b 7) (b 6) (b 5) (b 4) (b 3) (b 2) (b 1) (b 0)
    (bit_at-lt byte 7) (bit_at-lt byte 6) (bit_at-lt byte 5) (bit_at-lt byte 4)
    (bit_at-lt byte 3) (bit_at-lt byte 2) (bit_at-lt byte 1) (bit_at-lt byte 0)
    ∙ ap (λ n. low * 256 + n) (bits_make byte small)
  where
    b : ℕ → ℕ
    b place = bit_at byte place

pub with_byte_parts : (so_far byte : ℕ) → byte < 256
    → with_byte so_far byte ≡ bit_xor (so_far % 2 ^ 45 * 256 + byte) (high_part (so_far / 2 ^ 45))
unfolding high_part
with_byte_parts so_far byte small =
    ap (λ n. with_byte n byte) (sym parts)
    ∙ with_byte-xor (so_far % 2 ^ 45) (so_far / 2 ^ 45 * 2 ^ 45) byte
    ∙ ap (λ n. bit_xor n (with_byte (so_far / 2 ^ 45 * 2 ^ 45) 0)) (with_byte-low (so_far % 2 ^ 45) byte (omega arith) small)
  where
    parts : bit_xor (so_far % 2 ^ 45) (so_far / 2 ^ 45 * 2 ^ 45) ≡ so_far
    parts =
        let low : ℕ = so_far % 2 ^ 45 in
        let high : ℕ = so_far / 2 ^ 45 in
        let front : 0 * 2 ^ 45 + low ≡ low = omega arith in
        let back : high * 2 ^ 45 + 0 ≡ high * 2 ^ 45 = omega arith in
        let whole : bit_xor 0 high * 2 ^ 45 + bit_xor low 0 ≡ so_far = omega (arith, xor_zero_l high, xor_zero_r low) in
        sym (ap (λ n. bit_xor n (high * 2 ^ 45 + 0)) front ∙ ap (bit_xor low) back)
        ∙ xor_block 45 0 high low 0 (omega arith) (omega arith) ∙ whole

pub leaving_part-lt : (byte : ℕ) → leaving_part byte < 2 ^ 53
unfolding leaving_part
leaving_part-lt byte = remainder-lt (byte ∷ replicate 64 0)
