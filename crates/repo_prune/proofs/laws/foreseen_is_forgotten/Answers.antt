use Rattle.repo_prune.proofs.Choosing as lemmas
use Rattle.repo_prune.proofs.laws.foreseen_is_forgotten.Goals as goal

pub returns : goal.returns
returns c = lemmas.read_chosen
