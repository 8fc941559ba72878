-- The blocks of a padded message.
use Rattle.std.proofs.Common.{◌≡◌, ℕ, zero, suc, ◌+◌, ◌-◌, ◌*◌, ◌/◌, ◌%◌, ◌^◌, ◌<◌, ◌≤◌, List, [], ◌∷◌, ◌++◌, length, take, drop, replicate, slice_index_or, slice_set, refl, sym, ap, ◌∙◌, arith, length-append, length-drop}
use Rattle.std.specs.Int.{w64, to_be_bytes}
use Rattle.std.specs.Simd.{first_chunks}
use Rattle.std.proofs.lemmas.List.{append_assoc, drop-append-le, drop-drop, drop-replicate, drop-take, length-replicate, set-append_right, take-append-le, take_at, drop_at, take-replicate, take-take}
use Rattle.std.proofs.Math.Seq.{take-add}
use Rattle.std.proofs.lemmas.Slice.{take-put_mid}
use Rattle.sha2.specs.Sha256.{padded_message, padding}
use Rattle.repo_sha.specs.inner.Messages.{HasEnding, block_at, block_count, ending}
use borrow.Rule.Slice.PartMut.{put_mid}

-- a chunk is the bytes at its place
pub chunk_at : (k i : ℕ) (xs : List ℕ) → i < k → slice_index_or (first_chunks 64 k xs) i [] ≡ take 64 (drop (i * 64) xs)
chunk_at zero i xs lt = absurd (omega arith)
chunk_at (suc k) zero xs lt = refl
chunk_at (suc k) (suc i) xs lt =
    let on : 64 + i * 64 ≡ suc i * 64 = omega arith in
    chunk_at k i (drop 64 xs) (omega arith) ∙ ap (take 64) (drop-drop (i * 64) 64 xs ∙ ap (λ n. drop n xs) on)

-- how long the padding is
pub length-padding : (n : ℕ) → length (padding n) ≡ 9 + (119 - n % 64) % 64
length-padding n =
    let zeros : List ℕ = replicate ((119 - n % 64) % 64) 0 in
    let many : length zeros ≡ (119 - n % 64) % 64 = length-replicate ((119 - n % 64) % 64) 0 in
    let bits : length (to_be_bytes w64 (n * 8 % 2 ^ 64)) ≡ 8 = refl in
    omega (arith, length-append zeros (to_be_bytes w64 (n * 8 % 2 ^ 64)))

-- a block that the message fills by itself
pub block_within : (m : List ℕ) (i : ℕ) → i < length m / 64 → take 64 (drop (i * 64) m) ≡ block_at m i
block_within m i lt =
    let fits : 64 ≤ length (drop (i * 64) m) = omega (arith, length-drop (i * 64) m) in
    sym (rw (drop-append-le (i * 64) m (padding (length m)) (omega arith)) (take-append-le 64 (drop (i * 64) m) (padding (length m)) fits))

-- what the ending of a message is
pub ending_is : (m : List ℕ) → ending m ≡ drop (length m / 64 * 64) m ++ padding (length m)
ending_is m = drop-append-le (length m / 64 * 64) m (padding (length m)) (omega arith)

-- how many bytes the ending has
pub length-ending : (m : List ℕ) → length (ending m) ≡ (block_count m - length m / 64) * 64
length-ending m =
    omega (
      arith,
      ap length (ending_is m),
      length-append (drop (length m / 64 * 64) m) (padding (length m)),
      length-drop (length m / 64 * 64) m,
      length-append m (padding (length m)),
      length-padding (length m),
    )

-- how many blocks there are
pub block_count_is : (m : List ℕ) → block_count m ≡ (length m + 9 + (119 - length m % 64) % 64) / 64
block_count_is m = omega (arith, length-append m (padding (length m)), length-padding (length m))

-- a block of the ending
pub block_beyond : (m last : List ℕ) (i : ℕ) → HasEnding m last → length m / 64 ≤ i → i < block_count m
    → take 64 (drop ((i - length m / 64) * 64) last) ≡ block_at m i
block_beyond m last i has low lt =
    let n = length m / 64 in
    let k = i - n in
    let len : length (ending m) ≡ (block_count m - n) * 64 = length-ending m in
    let split : length (ending m) ≡ k * 64 + (length (ending m) - k * 64) = omega arith in
    let at : n * 64 + k * 64 ≡ i * 64 = omega arith in
    let within : drop (k * 64) (ending m) ≡ take (length (ending m) - k * 64) (drop (k * 64) last) =
    ap (drop (k * 64)) (sym has ∙ ap (λ c. take c last) split) ∙ drop-take (k * 64) (length (ending m) - k * 64) last in
    let whole : drop (i * 64) (padded_message m) ≡ drop (k * 64) (ending m) =
    sym (drop-drop (k * 64) (n * 64) (padded_message m) ∙ ap (λ c. drop c (padded_message m)) at) in
    sym (ap (take 64) (whole ∙ within) ∙ take-take 64 (length (ending m) - k * 64) (drop (k * 64) last) (omega arith))

-- the rest, the mark, zeros and the length, put one after another into zeros
pub ending_made : (m rest bits : List ℕ) (end : ℕ) → rest ≡ drop (length m / 64 * 64) m → length rest ≡ length m % 64
    → end ≡ length m % 64 + 9 + (119 - length m % 64) % 64 → bits ≡ to_be_bytes w64 (length m * 8 % 2 ^ 64)
    → HasEnding m (put_mid (end - 8) (end - (end - 8)) (slice_set (rest ++ drop (length rest) (replicate 128 0)) (length rest) 0x80) bits)
ending_made m rest bits end er lr ee eb =
    let used = length rest in
    let zeros = (119 - length m % 64) % 64 in
    let left = 127 - used in
    let blank : List ℕ = drop used (replicate 128 0) in
    let filled : List ℕ = slice_set (rest ++ blank) used 0x80 in
    let many : 128 - used ≡ suc left = omega arith in
    let none : used - used ≡ 0 = omega arith in
    let blank_is : blank ≡ replicate (suc left) 0 = drop-replicate {X = ℕ} used 128 0 ∙ ap (λ n. replicate n 0) many in
    let marked : filled ≡ rest ++ 0x80 ∷ replicate left 0 =
    set-append_right {X = ℕ} rest blank used used 0x80 refl (omega arith) ∙ ap (λ ys. rest ++ ys) (rw (none, blank_is) refl) in
    let zeros_are : take zeros (replicate left 0) ≡ replicate zeros 0 = take-replicate {X = ℕ} zeros left 0 (omega arith) in
    let before : end - 8 ≡ used + suc zeros = omega arith in
    let tail : List ℕ = 0x80 ∷ replicate left 0 in
    let front : take (end - 8) filled ≡ rest ++ 0x80 ∷ replicate zeros 0 =
    rw (marked, before, take-add used (suc zeros) (rest ++ tail), take_at rest tail used refl, drop_at rest tail used refl, zeros_are) refl in
    let eight : length bits ≡ 8 = rw eb refl in
    let long : length filled ≡ 128 = ap length marked ∙ length-append rest tail ∙ rw (length-replicate {A = ℕ} left 0) (omega arith) in
    let size : length (ending m) ≡ end = ap length (ending_is m) ∙ length-append (drop (length m / 64 * 64) m) (padding (length m)) ∙ rw (← er) (omega (arith, length-padding (length m))) in
    rw (size, take-put_mid (end - 8) (end - (end - 8)) filled bits end (omega arith) (omega arith), front, append_assoc, ending_is m, er, eb) refl
