use Rattle.std.proofs.Common.{ap}
use Rattle.sha2.specs.Sha256.{add_state, compress}
use Rattle.repo_sha.specs.inner.Lanes.{lane}
use Rattle.repo_sha.proofs.lane_rounds.compress_each.Goals as goal

pub returns : goal.returns
unfolding compress
returns c j lt block begins =
    rw (
      c.add.ensures j lt,
      c.add-2.ensures j lt,
      c.add-3.ensures j lt,
      c.add-4.ensures j lt,
      c.add-5.ensures j lt,
      c.add-6.ensures j lt,
      c.add-7.ensures j lt,
      c.add-8.ensures j lt,
    )
    (ap (add_state (lane j c.args.hashes)) (c.all_steps-v.ensures j lt block begins))
