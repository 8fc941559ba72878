use Rattle.std.proofs.Common.{◌≡◌, rules}
use Rattle.std.specs.Int.{bit_at}
use Rattle.std.proofs.lemmas.Nat.Bits.{shr_and_one}
use Rattle.repo_chunk.proofs.Bits.{xor_polynomial-lt}
use Rattle.repo_chunk.proofs.rabin.reduced.Goals as goal

pub returns-then-number-eq1-clause-degree : goal.returns-then-number-eq1-clause-degree
returns-then-number-eq1-clause-degree c =
    let top : bit_at c.args.number 53 ≡ 1 = search (rules, shr_and_one) in
    xor_polynomial-lt c.args.number c.requires top
