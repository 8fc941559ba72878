use Rattle.repo_prune.proofs.PruneLeaves.{prune_leaves}
use Rattle.repo_prune.proofs.laws.prune_leaves_what_is_needed.Goals as goal

pub returns : goal.returns
returns c = prune_leaves
