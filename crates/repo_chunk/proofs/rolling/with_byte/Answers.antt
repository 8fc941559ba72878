use Rattle.std.proofs.Common.{◌≡◌, ◌*◌, ◌+◌, ◌-◌, ◌/◌, ◌%◌, ◌^◌, ◌<◌, ℕ, ap, sym, ◌∙◌, subst, arith}
use Rattle.std.specs.Prelude.{bit_xor, bit_and}
use Rattle.std.proofs.lemmas.Nat.{and_mask}
use Rattle.repo_chunk.specs.inner.Tables.{with_byte, high_part}
use Rattle.repo_chunk.proofs.Linear.{with_byte_parts, with_byte-lt}
use Rattle.repo_chunk.proofs.rolling.with_byte.Goals as goal

made : (so_far byte part : ℕ) → byte < 256 → part ≡ high_part (so_far / 2 ^ 45)
    → bit_xor (bit_and so_far (2 ^ 45 - 1) * 256 % 2 ^ 64 + byte) part ≡ with_byte so_far byte
made so_far byte part small is =
    let low : bit_and so_far (2 ^ 45 - 1) * 256 % 2 ^ 64 ≡ so_far % 2 ^ 45 * 256 = omega (arith, and_mask so_far 45) in
    ap (λ n. bit_xor (n + byte) part) low ∙ ap (bit_xor (so_far % 2 ^ 45 * 256 + byte)) is ∙ sym (with_byte_parts so_far byte small)

pub returns-clause-value : goal.returns-clause-value
returns-clause-value c = made c.args.so_far c.args.byte c.high_part.result (omega arith) c.high_part.ensures

pub returns-clause-degree : goal.returns-clause-degree
returns-clause-degree c =
    let Below : ℕ → Type 0 = λ n. n < 2 ^ 53 in
    subst Below (sym (made c.args.so_far c.args.byte c.high_part.result (omega arith) c.high_part.ensures))
    (with_byte-lt c.args.so_far c.args.byte c.requires)
