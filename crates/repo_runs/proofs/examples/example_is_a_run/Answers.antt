use Rattle.repo_runs.proofs.Exampling as lemmas
use Rattle.repo_runs.proofs.examples.example_is_a_run.Goals as goal

pub returns : goal.returns
returns c = lemmas.example_is_run
