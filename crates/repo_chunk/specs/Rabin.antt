-- Rabin's fingerprint: the remainder of a byte list, read as a polynomial over the two-element field, by one fixed polynomial.
use Rattle.std.specs.Prelude.{ℕ, ◌+◌, ◌*◌, List, [], ◌∷◌, map, fold, ◌==◌, if◌then◌else◌, bit_xor}
use Rattle.std.specs.Int.{bit_at}
use Rattle.std.specs.List.{flat_map}

-- the polynomial that is divided by: bit i is the coefficient of the i-th power, and bit 53 is the highest
abbrev pub polynomial : ℕ
polynomial = 0x3DA3358B4DC173

-- the bits of a byte, the highest first
abbrev pub bits_of : ℕ → List ℕ
bits_of byte = map (bit_at byte) (7 ∷ 6 ∷ 5 ∷ 4 ∷ 3 ∷ 2 ∷ 1 ∷ 0 ∷ [])

-- a number of degree 53 or less, less the polynomial where its degree is 53
abbrev pub reduce : ℕ → ℕ
reduce number = if bit_at number 53 == 1 then bit_xor number polynomial else number

-- one step of Horner's rule: double, add the bit, and reduce
abbrev pub step : ℕ → ℕ → ℕ
step so_far bit = reduce (2 * so_far + bit)

-- the remainder of the bytes, from their first bit to their last
unfoldable pub remainder : List ℕ → ℕ
remainder bytes = fold step 0 (flat_map bits_of bytes)
