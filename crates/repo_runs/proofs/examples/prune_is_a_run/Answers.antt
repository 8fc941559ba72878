use Rattle.repo_runs.proofs.Tidying as lemmas
use Rattle.repo_runs.proofs.examples.prune_is_a_run.Goals as goal

pub returns : goal.returns
returns c = lemmas.prune_is_a_run
