use Rattle.repo_backup.proofs.Leading as law
use Rattle.repo_backup.proofs.item_laws.giving_up_is_last.Goals as goal

pub returns : goal.returns
returns c = law.giving_up_is_last
