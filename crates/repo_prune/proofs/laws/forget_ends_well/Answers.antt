use Rattle.repo_prune.proofs.ForgetRuns as lemmas
use Rattle.repo_prune.proofs.laws.forget_ends_well.Goals as goal

pub returns : goal.returns
returns c = lemmas.forget_ends
