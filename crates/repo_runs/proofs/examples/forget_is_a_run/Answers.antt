use Rattle.repo_runs.proofs.Forgetting as lemmas
use Rattle.repo_runs.proofs.examples.forget_is_a_run.Goals as goal

pub returns : goal.returns
returns c = lemmas.forget_is_a_run
