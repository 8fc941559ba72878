use Rattle.repo_restore.proofs.Replied as lemmas
use Rattle.repo_restore.proofs.laws.given_is_a_beginning.Goals as goal

pub returns : goal.returns
returns c = lemmas.given_is_a_beginning
