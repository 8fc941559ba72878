use Rattle.repo_prune.proofs.AppendOnly.{forget_barred}
use Rattle.repo_prune.proofs.laws.forget_of_append_only.Goals as goal

pub returns : goal.returns
returns c = forget_barred
