use Rattle.std.proofs.Common.{◌∙◌}
use Rattle.repo_locks.proofs.TokenMaps.{next_key}
use Rattle.repo_locks.proofs.making.set_of_numbers.Goals as goal

pub loop-number-preserved : goal.loop-number-preserved
loop-number-preserved c = c.in_ok-insert.ensures.keys ∙ next_key c.args.numbers.now c.loop-number.set.keys c.loop-number.number-index c.requires.0 _ c.requires.1 c.loop-number-test.true c.loop-number.invariant
