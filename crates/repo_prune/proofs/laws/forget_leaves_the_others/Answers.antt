use Rattle.repo_prune.proofs.Leaving as lemmas
use Rattle.repo_prune.proofs.laws.forget_leaves_the_others.Goals as goal

pub returns : goal.returns
returns c = lemmas.forget_leaves
