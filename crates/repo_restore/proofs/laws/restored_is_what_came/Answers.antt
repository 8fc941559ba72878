use Rattle.repo_restore.proofs.Replied as lemmas
use Rattle.repo_restore.proofs.laws.restored_is_what_came.Goals as goal

pub returns : goal.returns
returns c = lemmas.restored_is_what_came
