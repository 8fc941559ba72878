use Rattle.repo_backup.proofs.LoneRuns.{fed_ends}
use Rattle.repo_backup.proofs.laws.fed_backup_ends_well.Goals as goal

pub returns : goal.returns
returns c = fed_ends
