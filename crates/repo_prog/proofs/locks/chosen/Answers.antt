use Rattle.std.proofs.Common.{rules}
use Rattle.repo_prog.proofs.locks.chosen.Goals as goal

pub returns-then-all : goal.returns-then-all
returns-then-all c = rw c.if-all.true (search rules)
