-- The steps of the remainder: a number less the polynomial, and the bits of a byte in turn.
use Rattle.std.proofs.Common.{◌≡◌, ℕ, zero, suc, ◌+◌, ◌-◌, ◌^◌, ◌<◌, ◌%◌, List, [], ◌∷◌, map, ap, ◌∙◌, arith}
use Rattle.std.specs.Prelude.{fold, bit_xor}
use Rattle.std.specs.Int.{bit_at}
use Rattle.std.proofs.lemmas.Nat.{xor_lt}
use Rattle.std.proofs.lemmas.Nat.Bits.{bit_at_xor}
use Rattle.repo_chunk.specs.Rabin.{polynomial, step}

-- a number of degree 53, less the polynomial, is of a lower degree
pub xor_polynomial-lt : (n : ℕ) → n < 2 ^ 54 → bit_at n 53 ≡ 1 → bit_xor n polynomial < 2 ^ 53
xor_polynomial-lt n below top =
    let e : bit_at (bit_xor n polynomial) 53 ≡ (1 + 1) % 2 = bit_at_xor n polynomial 53 ∙ ap (λ b. (b + 1) % 2) top in
    let l : bit_xor n polynomial < 2 ^ 54 = xor_lt 54 n polynomial below (omega arith) in
    omega arith

-- the numbers below one, the greatest first
abbrev pub below : ℕ → List ℕ
below zero = []
below (suc n) = n ∷ below n

-- the steps at the bits of a byte below a place
abbrev pub steps_below : ℕ → ℕ → ℕ → ℕ
steps_below byte place so_far = fold step so_far (map (bit_at byte) (below place))

-- a step at the bit below a place leaves the steps at the bits below that one
pub steps_down : (byte place so_far next whole : ℕ) → 0 < place → next ≡ step so_far (bit_at byte (place - 1))
    → steps_below byte place so_far ≡ whole → steps_below byte (place - 1) next ≡ whole
steps_down byte zero so_far next whole some made rest = absurd (omega arith)
steps_down byte (suc n) so_far next whole some made rest =
    let less : suc n - 1 ≡ n = omega arith in
    rw (made, less) rest
