use Rattle.repo_prune.proofs.AppendOnly.{prune_barred}
use Rattle.repo_prune.proofs.laws.prune_of_append_only.Goals as goal

pub returns : goal.returns
returns c = prune_barred
