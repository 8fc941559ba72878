use Rattle.std.proofs.Common.{drop, Contains}
use Rattle.repo_tree.specs.declared.nodes.Node.{Node}
use Rattle.repo_check.specs.Measures.{SuitsSize}
use Rattle.repo_check.proofs.measures.all_suit.Given as goal

abbrev pub invariant-loop-node : goal.invariant-loop-node
invariant-loop-node l = ((node : Node) → Contains (drop l.node-index l.nodes) node → SuitsSize l.lookup node.what) → (node : Node) → Contains l.nodes node → SuitsSize l.lookup node.what
