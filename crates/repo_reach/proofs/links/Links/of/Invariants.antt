use Rattle.std.proofs.Common.{◌≡◌, ◌++◌, drop}
use Rattle.repo_reach.specs.Links.{trees_of, content_of}
use Rattle.repo_reach.proofs.links.Links.of.Given as goal

abbrev pub invariant-loop-node : goal.invariant-loop-node
invariant-loop-node l = (trees_of l.nodes ≡ l.trees.items ++ trees_of (drop l.node-index l.nodes)) × (content_of l.nodes ≡ l.content.items ++ content_of (drop l.node-index l.nodes))
