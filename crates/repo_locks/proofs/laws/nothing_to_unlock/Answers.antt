use Rattle.repo_locks.proofs.Numbers.{unlocked_same}
use Rattle.repo_locks.proofs.laws.nothing_to_unlock.Goals as goal

pub returns : goal.returns
returns c = unlocked_same
