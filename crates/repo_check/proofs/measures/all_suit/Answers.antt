use Rattle.std.proofs.Common.{arith, subst, Contains, List}
use Rattle.repo_tree.specs.declared.nodes.Node.{Node}
use Rattle.repo_name.proofs.Containing.{none_contained}
use Rattle.repo_check.specs.Measures.{SuitsSize}
use Rattle.repo_check.proofs.Measuring.{left_each, left_none}
use Rattle.repo_check.proofs.measures.all_suit.Goals as goal

pub loop-node-preserved : goal.loop-node-preserved
loop-node-preserved c = λ rest.
    let nodes = c.args.nodes.now in
    let i = c.loop-node.node-index in
    let here = c.suits.ensures.yes c.if-not-suits.false in
    c.loop-node.invariant (left_each (λ (node : Node). SuitsSize c.args.lookup.now node.what) nodes i c.node-item.result c.loop-node-test.true (subst (λ (node : Node). SuitsSize c.args.lookup.now node.what) c.node-item.is here) rest)

pub returns-clause-all : goal.returns-clause-all
returns-clause-all c = λ is. let stop = c.loop-node-test.false in let few = left_none c.args.nodes.now c.loop-node.node-index (omega (arith, stop)) in
    c.loop-node.invariant (λ node h. absurd (none_contained node (subst (λ (ns : List Node). Contains ns node) few h)))
