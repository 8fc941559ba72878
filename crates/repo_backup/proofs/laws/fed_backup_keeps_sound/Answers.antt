use Rattle.repo_backup.proofs.LoneRuns.{fed_sound}
use Rattle.repo_backup.proofs.laws.fed_backup_keeps_sound.Goals as goal

pub returns : goal.returns
returns c = fed_sound
