use Rattle.repo_locks.proofs.Numbers.{live_stays}
use Rattle.repo_locks.proofs.laws.live_stays_live.Goals as goal

pub returns : goal.returns
returns c = live_stays
