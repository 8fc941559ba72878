use Rattle.repo_restore.proofs.Replied as lemmas
use Rattle.repo_restore.proofs.laws.closed_is_whole.Goals as goal

pub returns : goal.returns
returns c = lemmas.closed_is_whole
