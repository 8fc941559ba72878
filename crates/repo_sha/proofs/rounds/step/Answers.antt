use Rattle.std.proofs.Common.{arith}
use Rattle.repo_sha.proofs.SumLemmas.{rounds_on}
use Rattle.repo_sha.proofs.rounds.step.Goals as goal

pub returns : goal.returns
returns c block h sums held =
    rounds_on block h c.args.v _ c.args.t held (c.round.ensures _ _ (sums.1 c.args.t (omega arith)))
