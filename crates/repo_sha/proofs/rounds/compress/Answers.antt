use Rattle.std.proofs.Common.{ap}
use Rattle.sha2.specs.Sha256.{add_state, compress}
use Rattle.repo_sha.proofs.rounds.compress.Goals as goal

pub returns : goal.returns
unfolding compress
returns c block sums = ap (add_state c.args.hash) (c.all_steps-v.ensures block sums)
