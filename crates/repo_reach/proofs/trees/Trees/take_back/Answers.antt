use Rattle.repo_reach.proofs.Rewinding.{taken_back, before_same, trees_then}
use Rattle.repo_reach.proofs.trees.Trees.take_back.Goals as goal

pub returns-clause-walk : goal.returns-clause-walk
returns-clause-walk c = λ texts before added seen w none adds same. taken_back texts before added c.args.self.now c.drop_last.new.self c.rewind.new.self seen w none adds same c.drop_last.ensures c.rewind.ensures.rewound

pub returns-clause-trees : goal.returns-clause-trees
returns-clause-trees c = λ before added seen adds same.
    trees_then before.seen.items c.drop_last.new.self.seen.items c.rewind.new.self.seen.items (before_same before added c.args.self.now c.drop_last.new.self seen adds same c.drop_last.ensures) c.rewind.ensures.rewound.trees
