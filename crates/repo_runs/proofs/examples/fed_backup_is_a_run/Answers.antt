use Rattle.repo_runs.proofs.Joining as lemmas
use Rattle.repo_runs.proofs.examples.fed_backup_is_a_run.Goals as goal

pub returns : goal.returns
returns c = lemmas.fed_backup
