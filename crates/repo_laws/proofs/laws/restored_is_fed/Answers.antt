use Rattle.repo_laws.proofs.FedRuns as lemmas
use Rattle.repo_laws.proofs.laws.restored_is_fed.Goals as goal

pub returns : goal.returns
returns c = lemmas.restored_fed
