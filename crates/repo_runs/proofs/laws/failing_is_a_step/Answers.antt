use Rattle.repo_runs.proofs.Outcomes as lemmas
use Rattle.repo_runs.proofs.laws.failing_is_a_step.Goals as goal

pub returns : goal.returns
returns c = lemmas.failing_is_step
