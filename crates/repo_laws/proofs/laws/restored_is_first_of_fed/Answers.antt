use Rattle.repo_laws.proofs.FedRuns as lemmas
use Rattle.repo_laws.proofs.laws.restored_is_first_of_fed.Goals as goal

pub returns : goal.returns
returns c = lemmas.restored_first_fed
