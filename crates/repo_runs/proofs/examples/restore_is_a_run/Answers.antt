use Rattle.repo_runs.proofs.GivingBack as lemmas
use Rattle.repo_runs.proofs.examples.restore_is_a_run.Goals as goal

pub returns : goal.returns
returns c = lemmas.restore_is_a_run
