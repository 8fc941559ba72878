use Rattle.repo_feeding.proofs.Spelled as law
use Rattle.repo_feeding.proofs.laws.stored_is_spelled.Goals as goal

pub returns : goal.returns
returns c = law.stored_is_spelled
