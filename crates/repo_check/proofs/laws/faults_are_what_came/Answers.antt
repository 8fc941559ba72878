use Rattle.repo_check.proofs.Replied as lemmas
use Rattle.repo_check.proofs.laws.faults_are_what_came.Goals as goal

pub returns : goal.returns
returns c = lemmas.faults_are_what_came
