-- Names, and the texts that name them.
use Rattle.std.proofs.Common.{◌≡◌, ◌≢◌, ◌↔◌, ◌∙◌, ◌*◌, ℕ, List, length, ap, refl, arith, Result, Err}
use Rattle.std.specs.Prelude.{IsErrOf}
use Rattle.hex.specs.Hex.{decode_sized, lower_digits}
use Rattle.hex.proofs.HexLemmas.{decode_sized-encode_lower, length-encode_with}
use Rattle.repo_name.specs.Naming.{hex_of, IsName}
use Rattle.repo_name.specs.declared.names.Name.{Name}
use Rattle.repo_name.specs.declared.names.NameError.{NameError}
use Rattle.repo_name.specs.declared.names.NameError.TheVariants.{Length, Digit}
use Rattle.repo_json.specs.JsonNames.{IsId, NamesNothing}

-- a text is that of one name
pub hex_one : (a b : Name) → IsName a → IsName b → hex_of a ≡ hex_of b → a ≡ b
hex_one a b ia ib h =
    let e = decode_sized-encode_lower a.0 32 ia.0 ia.1 in
    let f = decode_sized-encode_lower b.0 32 ib.0 ib.1 in
    let s : a.0 ≡ b.0 = cc (e, f, ap (λ t. decode_sized t 32) h) in
    λ i. record { 0 = s i }

pub id_one : (x y : List ℕ) (a b : Name) → x ≡ y → IsId x a → IsId y b → a ≡ b
id_one x y a b same h g =
    let texts : hex_of a ≡ hex_of b = cc (same, h.1, g.1) in
    hex_one a b h.0 g.0 texts

-- a reading that failed
abbrev failed : NameError → Result Name NameError
failed e = Err e

-- a text that isn't read is that of no name
pub not_named : (e : NameError) (text : List ℕ) → (IsErrOf (failed e) NameError.Length ↔ (length text ≢ 64))
    → (IsErrOf (failed e) NameError.Digit → (n : Name) → IsName n → text ≢ hex_of n) → NamesNothing text
not_named Length text short digit n is =
    let size : length text ≡ 2 * length n.0 = ap length is.1 ∙ length-encode_with lower_digits n.0 in
    let long : length text ≡ 64 = omega (arith, is.0.0) in
    short.0 refl long
not_named Digit text short digit n is = digit refl n is.0 is.1
