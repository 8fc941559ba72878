use Rattle.std.proofs.Common.{arith, rules, ◌∙◌, sym, length, ◌<◌}
use Rattle.repo_locks.specs.LedgerBytes.{token_bytes, IsNumber}
use Rattle.repo_name.proofs.CountLemmas.{too_few}
use Rattle.repo_locks.proofs.Texts.{tokens_one, no_token}
use Rattle.repo_locks.proofs.reading.numbers_at.Goals as goal

pub returns-in_err-number-clause-shape : goal.returns-in_err-number-clause-shape
returns-in_err-number-clause-shape c _ ts rest counted is h =
    let inv = c.loop.invariant in
    let short : length c.loop.rest.now < 8 = search rules in
    too_few token_bytes IsNumber tokens_one c.loop.numbers.items c.loop.rest.now inv.each (no_token c.loop.rest.now short) ts rest (omega arith) is (sym inv.read ∙ h)
