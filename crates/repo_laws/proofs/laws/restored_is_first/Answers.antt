use Rattle.repo_laws.proofs.StoredRuns as lemmas
use Rattle.repo_laws.proofs.laws.restored_is_first.Goals as goal

pub returns : goal.returns
returns c = lemmas.restored_first
