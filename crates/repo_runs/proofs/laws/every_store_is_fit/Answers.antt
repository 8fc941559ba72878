use Rattle.repo_runs.proofs.Resting as lemmas
use Rattle.repo_runs.proofs.laws.every_store_is_fit.Goals as goal

pub returns : goal.returns
returns c = lemmas.every_store_is_fit
