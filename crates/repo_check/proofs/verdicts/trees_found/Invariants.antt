use Rattle.std.proofs.Common.{take}
use Rattle.repo_check.specs.Rounds.{Match}
use Rattle.repo_check.specs.Verdicts.{IsTreeFound}
use Rattle.repo_check.specs.Walks.{known_of}
use Rattle.repo_check.proofs.verdicts.trees_found.Given as goal

abbrev pub invariant-loop-tree : goal.invariant-loop-tree
invariant-loop-tree l = Match (IsTreeFound (known_of l.known) l.broken) (take l.tree-index l.names) l.found.items
