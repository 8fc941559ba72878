use Rattle.std.proofs.Common.{rules, ◌≡◌, sym, ◌∙◌, ap, nat_eq, true}
use Rattle.std.specs.Cmp.Lexicographic.{pointwise, lists_equiv}
use Rattle.std.specs.Cmp.{nat_eq_equiv}
use Rattle.hex.specs.Hex.{decode_sized, encode_lower}
use Rattle.hex.proofs.HexLemmas.{decode_sized-encode_lower}
use Rattle.repo_name.proofs.names.Name.from_hex.Goals as goal

pub returns-in_default-clause-digit : goal.returns-in_default-clause-digit
returns-in_default-clause-digit c _ n is h =
    let e = ap (λ t. decode_sized t 32) h ∙ decode_sized-encode_lower n.0 32 is.0 is.1 in
    cc (e, c.from_hex.ensures, c.in_default.is)

pub returns-else-eq-clause-digit : goal.returns-else-eq-clause-digit
returns-else-eq-clause-digit c _ n is h =
    let e = ap (λ t. decode_sized t 32) h ∙ decode_sized-encode_lower n.0 32 is.0 is.1 in
    let same : c.in-Ok.bytes ≡ n.0 = cc (e, c.in-Ok.ensures) in
    let written : c.encode_to_slice.new.output ≡ encode_lower c.in-Ok.bytes = search rules in
    let texts : c.as_bytes.result.now ≡ c.as_slice.result.now = c.as_bytes.ensures.value ∙ h ∙ ap encode_lower (sym same) ∙ sym written ∙ sym c.as_slice.ensures in
    let alike : pointwise nat_eq c.as_bytes.result.now c.as_slice.result.now ≡ true =
    ap (λ t. pointwise nat_eq c.as_bytes.result.now t) (sym texts) ∙ (lists_equiv nat_eq_equiv).refl c.as_bytes.result.now in
    let apart = c.if-eq.false in
    cc (alike, c.eq.ensures, apart)
