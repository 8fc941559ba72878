use Rattle.repo_prune.proofs.ForgetRuns as lemmas
use Rattle.repo_prune.proofs.laws.forget_keeps_sound.Goals as goal

pub returns : goal.returns
returns c = lemmas.forget_sound
