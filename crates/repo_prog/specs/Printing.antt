-- Texts of others, as they are printed.
use Rattle.std.specs.Prelude.{◌++◌, ◌||◌, ◌&&◌, ℕ, Bool, false, List, cond, codes, chars, encode_utf8, nat_le}
use Rattle.std.specs.List.{flat_map}
use Rattle.std.specs.Fmt.{radix_digits}

-- a code from one to another, both included
abbrev pub is_from : ℕ → ℕ → ℕ → Bool
is_from least greatest c = nat_le least c && nat_le c greatest

-- a control character
abbrev pub is_control : ℕ → Bool
is_control c = is_from 0 0x1f c || is_from 0x7f 0x9f c

-- what ends a line or a paragraph
abbrev pub is_separator : ℕ → Bool
is_separator c = is_from 0x2028 0x2029 c

-- what turns the direction of writing
abbrev pub turns_direction : ℕ → Bool
turns_direction c = is_from 0x61c 0x61c c || (is_from 0x200e 0x200f c || (is_from 0x202a 0x202e c || is_from 0x2066 0x2069 c))

-- a character that isn't printed as it is
abbrev pub is_hidden : ℕ → Bool
is_hidden c = is_control c || (is_separator c || turns_direction c)

-- a character as it is printed: one that is hidden by its code
abbrev pub printed_char : ℕ → List ℕ
printed_char c = cond (is_hidden c) (codes "\\u{" ++ (radix_digits 16 false c ++ codes "}")) (encode_utf8 c)

-- a text as it is printed
abbrev pub printed : List ℕ → List ℕ
printed text = flat_map printed_char (chars text)
