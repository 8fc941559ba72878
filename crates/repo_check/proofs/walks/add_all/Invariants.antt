use Rattle.std.proofs.Common.{drop}
use Rattle.repo_check.proofs.Walking.{AreAdded}
use Rattle.repo_check.proofs.walks.add_all.Given as goal

abbrev pub invariant-loop-tree : goal.invariant-loop-tree
invariant-loop-tree l = AreAdded l.follows l.depth l.trees l.fn.visits l.visits (drop l.tree-index l.trees)
