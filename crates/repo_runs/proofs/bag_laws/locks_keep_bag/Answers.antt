use Rattle.repo_runs.proofs.Requests as lemmas
use Rattle.repo_runs.proofs.bag_laws.locks_keep_bag.Goals as goal

pub returns : goal.returns
returns c = lemmas.locks_keep
