use Rattle.repo_runs.proofs.Strangers as lemmas
use Rattle.repo_runs.proofs.bag_laws.strangers_keep_bag.Goals as goal

pub returns : goal.returns
returns c = lemmas.strangers_keep
