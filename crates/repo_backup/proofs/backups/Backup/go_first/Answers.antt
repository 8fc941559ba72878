use Rattle.repo_backup.proofs.BackupStepping.{anew_after}
use Rattle.repo_backup.proofs.backups.Backup.go_first.Goals as goal

pub returns-in-Err-clause-again : goal.returns-in-Err-clause-again
returns-in-Err-clause-again c = λ b is.
    let k = c.in-Err.ensures.err b is in
    let d = c.begin_again.ensures.begun k.0 k.1 in
    (d.0, d.1, anew_after b k.0 d.0 k.3 d.2)
