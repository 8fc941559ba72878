use Rattle.std.proofs.Common.{◌≡◌, map, take}
use Rattle.repo_reach.specs.Walks.{visit_at}
use Rattle.repo_reach.proofs.trees.visits.Given as goal

abbrev pub invariant-loop-tree : goal.invariant-loop-tree
invariant-loop-tree l = l.visits.items ≡ map (visit_at l.follows l.depth) (take l.tree-index l.trees)
