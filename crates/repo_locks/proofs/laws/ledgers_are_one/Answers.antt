use Rattle.repo_locks.proofs.Texts.{ledgers_one}
use Rattle.repo_locks.proofs.laws.ledgers_are_one.Goals as goal

pub returns : goal.returns
returns c = ledgers_one
