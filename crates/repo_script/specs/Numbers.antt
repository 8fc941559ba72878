-- Numbers in decimal.
use Rattle.std.specs.Prelude.{ℕ, ◌^◌, ◌&&◌, Bool, nat_lt, if◌then◌else◌, List, [], ◌∷◌, length, Option, Some, None, option_map}
use Rattle.std.specs.Char.{is_digit}
use Rattle.std.specs.List.{list_all}
use Rattle.std.specs.Option.{option_and_then}
use Rattle.std.specs.Str.Parse.{digits_value}

-- digits 0 to 9 alone, and at least one
abbrev pub is_numeral : List ℕ → Bool
is_numeral word = nat_lt 0 (length word) && list_all (λ b. is_digit b 10) word

-- the number that such a word is, if it has so many bits at most
abbrev pub number : ℕ → List ℕ → Option ℕ
number bits word = if is_numeral word && nat_lt (digits_value 10 word) (2 ^ bits) then Some (digits_value 10 word) else None

-- the numbers of 64 bits that all these words are
abbrev pub numbers : List (List ℕ) → Option (List ℕ)
numbers [] = Some []
numbers (word ∷ words) = option_and_then (λ n. option_map (λ ns. n ∷ ns) (numbers words)) (number 64 word)
