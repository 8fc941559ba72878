use Rattle.repo_locks.proofs.Numbers.{locked_live}
use Rattle.repo_locks.proofs.laws.locked_is_live.Goals as goal

pub returns : goal.returns
returns c = locked_live
