use Rattle.repo_runs.proofs.Backing as lemmas
use Rattle.repo_runs.proofs.examples.backup_is_a_run.Goals as goal

pub returns : goal.returns
returns c = lemmas.backup_is_a_run
