use Rattle.repo_locks.proofs.Numbers.{issued_fresh}
use Rattle.repo_locks.proofs.laws.issued_is_fresh.Goals as goal

pub returns : goal.returns
returns c = issued_fresh
