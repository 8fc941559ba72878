use Rattle.repo_locks.proofs.Numbers.{unlocked_neither}
use Rattle.repo_locks.proofs.laws.unlocked_is_neither.Goals as goal

pub returns : goal.returns
returns c = unlocked_neither
