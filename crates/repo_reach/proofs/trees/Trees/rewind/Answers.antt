use Rattle.std.proofs.Common.{refl}
use Rattle.repo_reach.proofs.Rewinding.{rewound}
use Rattle.repo_reach.proofs.trees.Trees.rewind.Goals as goal

pub returns-clause-walk : goal.returns-clause-walk
returns-clause-walk c = λ texts w. rewound texts c.args.self.now _ w (record { trees = c.forget_depths.ensures.same; never = c.forget_depths.ensures.never; waiting = c.clear.ensures.items; root = refl; places = refl; roots = refl })
