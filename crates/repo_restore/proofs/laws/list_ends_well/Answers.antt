use Rattle.repo_restore.proofs.RestoreRuns as lemmas
use Rattle.repo_restore.proofs.laws.list_ends_well.Goals as goal

pub returns : goal.returns
returns c = lemmas.list_ends
