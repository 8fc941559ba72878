use Rattle.repo_backup.proofs.Leading as law
use Rattle.repo_backup.proofs.item_laws.end_is_last.Goals as goal

pub returns : goal.returns
returns c = law.end_is_last
