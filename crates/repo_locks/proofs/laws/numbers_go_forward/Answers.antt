use Rattle.repo_locks.proofs.Numbers.{goes_forward}
use Rattle.repo_locks.proofs.laws.numbers_go_forward.Goals as goal

pub returns : goal.returns
returns c = goes_forward
