use Rattle.repo_locks.proofs.Numbers.{dead_stays}
use Rattle.repo_locks.proofs.laws.dead_stays_dead.Goals as goal

pub returns : goal.returns
returns c = dead_stays
