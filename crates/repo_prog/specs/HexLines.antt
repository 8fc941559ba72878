use Rattle.std.specs.Prelude.{◌≡◌, ◌≢◌, ◌⊎◌, ◌++◌, ◌∷◌, [], ⊤, ℕ, List, Ok}
use Rattle.hex.specs.Hex.{decode_of, encode_lower}

-- the byte that ends a line
abbrev pub line_feed : ℕ
line_feed = 10

-- no line ends within these bytes
abbrev pub IsHexLine : List ℕ → Type 0
IsHexLine [] = ⊤
IsHexLine (b ∷ bytes) = (b ≢ line_feed) × IsHexLine bytes

-- the input's first lines are these, and this follows: a line ends at a line feed or, if it isn't empty, at the input's end
abbrev pub AreLines : List ℕ → List (List ℕ) → List ℕ → Type 0
AreLines input [] rest = rest ≡ input
AreLines input (line ∷ lines) rest = IsHexLine line × (
    ((after : List ℕ) × (input ≡ line ++ line_feed ∷ after) × AreLines after lines rest)
    ⊎ ((line ≢ []) × (input ≡ line) × (lines ≡ []) × (rest ≡ [])))

-- the lines are hexadecimal, in digits of both cases, and spell these bytes
abbrev pub Spell : List (List ℕ) → List ℕ → Type 0
Spell [] bytes = bytes ≡ []
Spell (line ∷ lines) bytes = (first : List ℕ) × (rest : List ℕ) × (decode_of line ≡ Ok first) × Spell lines rest × (bytes ≡ first ++ rest)

-- a line that isn't hexadecimal
abbrev pub IsNotHex : List ℕ → Type 0
IsNotHex line = (bytes : List ℕ) → decode_of line ≢ Ok bytes

-- the line of a frame: its bytes in hexadecimal, lower case, and a line feed
abbrev pub hex_line : List ℕ → List ℕ
hex_line bytes = encode_lower bytes ++ line_feed ∷ []
