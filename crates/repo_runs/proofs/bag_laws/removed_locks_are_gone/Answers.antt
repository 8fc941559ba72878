use Rattle.repo_runs.proofs.Strangers as lemmas
use Rattle.repo_runs.proofs.bag_laws.removed_locks_are_gone.Goals as goal

pub returns : goal.returns
returns c = lemmas.removed_gone
