use Rattle.repo_prune.proofs.PruneEnds.{prune_ends}
use Rattle.repo_prune.proofs.laws.prune_ends_well.Goals as goal

pub returns : goal.returns
returns c = prune_ends
