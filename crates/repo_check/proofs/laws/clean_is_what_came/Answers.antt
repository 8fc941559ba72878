use Rattle.repo_check.proofs.Replied as lemmas
use Rattle.repo_check.proofs.laws.clean_is_what_came.Goals as goal

pub returns : goal.returns
returns c = lemmas.clean_is_what_came
