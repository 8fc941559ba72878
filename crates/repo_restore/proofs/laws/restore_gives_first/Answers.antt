use Rattle.repo_restore.proofs.RestoreRuns as lemmas
use Rattle.repo_restore.proofs.laws.restore_gives_first.Goals as goal

pub returns : goal.returns
returns c = lemmas.restore_gives_first
