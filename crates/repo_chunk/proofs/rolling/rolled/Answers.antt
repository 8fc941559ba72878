use Rattle.std.proofs.Common.{ap, ◌∙◌, arith}
use Rattle.std.specs.Prelude.{bit_xor}
use Rattle.std.proofs.lemmas.Nat.{xor_lt}
use Rattle.repo_chunk.specs.inner.Tables.{with_byte}
use Rattle.repo_chunk.proofs.Linear.{window_moves, leaving_part-lt}
use Rattle.repo_chunk.proofs.rolling.rolled.Goals as goal

pub returns-clause-value : goal.returns-clause-value
returns-clause-value c = λ middle wide is.
    ap (λ r. bit_xor r c.leaving_part.result) (c.with_byte.ensures.value ∙ ap (λ r. with_byte r c.args.newest) is)
    ∙ ap (bit_xor _) c.leaving_part.ensures ∙ window_moves c.args.oldest middle c.args.newest wide

pub returns-clause-degree : goal.returns-clause-degree
returns-clause-degree c = xor_lt 53 c.with_byte.result c.leaving_part.result c.with_byte.ensures.degree
    (omega (arith, c.leaving_part.ensures, leaving_part-lt c.args.oldest))
