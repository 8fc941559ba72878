use Rattle.std.proofs.Common.{arith}
use Rattle.repo_sha.specs.inner.Batches.{at}
use Rattle.repo_sha.specs.inner.Lanes.{lane}
use Rattle.repo_sha.proofs.BatchLemmas.{went_on}
use Rattle.repo_sha.proofs.turns.hashes_after.Goals as goal

pub steps-preserved : goal.steps-preserved
steps-preserved c j lt =
    went_on (at c.args.lanes.now j) c.args.steps c.steps.step (lane j c.steps.hashes) (lane j c.step_each-after.result) (omega arith)
    (c.requires.left j lt) (c.steps.invariant j lt) (c.step_each-after.ensures j lt)
