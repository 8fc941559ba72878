use Rattle.std.proofs.Common.{arith, []}
use Rattle.repo_name.specs.declared.names.Name.{Name}
use Rattle.repo_check.proofs.Walking.{added_all, added_next}
use Rattle.repo_check.proofs.walks.add_all.Goals as goal

pub loop-tree-preserved : goal.loop-tree-preserved
loop-tree-preserved c =
    let no_name : Name = record { 0 = [] } in
    added_next c.args.follows c.args.depth c.args.trees.now c.loop-tree.tree-index no_name c.loop-tree-test.true c.args.visits.now c.loop-tree.visits c.add.new.self c.in_ok-add.ensures.ok c.loop-tree.invariant

pub returns-clause-all : goal.returns-clause-all
returns-clause-all c = (let stop = c.loop-tree-test.false in added_all c.args.follows c.args.depth c.args.trees.now c.loop-tree.tree-index (omega (arith, stop)) c.args.visits.now c.loop-tree.visits c.loop-tree.invariant)
