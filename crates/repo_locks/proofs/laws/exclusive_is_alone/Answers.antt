use Rattle.repo_locks.proofs.Numbers.{exclusive_alone}
use Rattle.repo_locks.proofs.laws.exclusive_is_alone.Goals as goal

pub returns : goal.returns
returns c = exclusive_alone
