use Rattle.repo_runs.proofs.Requests as lemmas
use Rattle.repo_runs.proofs.bag_laws.upgraded_is_of_version.Goals as goal

pub returns : goal.returns
returns c = lemmas.upgraded_of_version
