use Rattle.repo_restore.proofs.RestoreRuns as lemmas
use Rattle.repo_restore.proofs.laws.list_changes_nothing.Goals as goal

pub returns : goal.returns
returns c = lemmas.list_changes_nothing
