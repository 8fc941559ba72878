use Rattle.std.specs.Prelude.{◌≡◌, ℕ, List, length}
use Rattle.std.specs.Ordering.{nat_cmp}
use Rattle.std.specs.declared.cmp.Ordering.{Ordering}
use Rattle.std.specs.Cmp.Lexicographic.{slice_cmp}
use Rattle.sha2.specs.Sha256.{sha256}
use Rattle.hex.specs.Hex.{encode_lower, IsBytes}
use Rattle.repo_name.specs.declared.names.Name.{Name}
use Rattle.repo_name.specs.declared.names.Instance.{Instance}

-- the object name of some bytes: their SHA-256
abbrev pub name : List ℕ → Name
name x = record { 0 = sha256 x }

-- 32 bytes, as every name of a program has
abbrev pub IsName : Name → Type 0
IsName n = (length n.0 ≡ 32) × IsBytes n.0

-- 16 bytes, as every instance of a program has
abbrev pub IsInstance : Instance → Type 0
IsInstance i = (length i.0 ≡ 16) × IsBytes i.0

-- a name's text: its bytes in hexadecimal, lower case
abbrev pub hex_of : Name → List ℕ
hex_of n = encode_lower n.0

-- names go by their bytes, the first ones first
abbrev pub name_cmp : Name → Name → Ordering
name_cmp a b = slice_cmp nat_cmp a.0 b.0

-- a stands before b
abbrev pub Before : Name → Name → Type 0
Before a b = name_cmp a b ≡ Ordering.Less
