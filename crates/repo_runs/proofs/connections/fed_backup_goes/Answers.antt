use Rattle.repo_runs.proofs.Going as lemmas
use Rattle.repo_runs.proofs.connections.fed_backup_goes.Goals as goal

pub returns : goal.returns
returns c = lemmas.fed_backup_goes
