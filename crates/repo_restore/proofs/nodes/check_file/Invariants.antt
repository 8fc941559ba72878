use Rattle.std.proofs.Common.{ℕ, take}
use Rattle.repo_restore.specs.Walks.{LeftOf}
use Rattle.repo_restore.specs.Restoring.{Sums}
use Rattle.repo_restore.proofs.nodes.check_file.Given as goal

abbrev pub invariant-loop-name : goal.invariant-loop-name
invariant-loop-name l = (total : ℕ) × Sums l.lookup (take l.name-index l.content) total × LeftOf l.left l.size total
