use Rattle.std.proofs.Common.{inr}
use Rattle.std.proofs.lemmas.Result.{IfOk-weaker}
use Rattle.repo_prune.proofs.PruneTrees.{planned, over_walking, walked_parts, content_unindexed}
use Rattle.repo_prune.specs.PruneStates.{known_in}
use Rattle.repo_prune.proofs.prunes.Prune.after_trees.Goals as goal

pub returns-in-Plan-clause-on : goal.returns-in-Plan-clause-on
returns-in-Plan-clause-on c = IfOk-weaker c.after_plan.result _ _ (λ onward comes who es w h.
    let decided = rw c.in-Plan.is at c.in_ok-plan.ensures in
    comes who es w (record { read = h.over.read; untouched = h.over.untouched; planned = planned (known_in c.args.self.now) c.args.trees.now es h c.in-Plan.plan decided; parts = walked_parts (known_in c.args.self.now) c.args.trees.now es h })) c.after_plan.ensures.on

pub returns-in-Missing-clause-on : goal.returns-in-Missing-clause-on
returns-in-Missing-clause-on c = λ who es w h.
    let decided = rw c.in-Missing.is at c.in_ok-plan.ensures in
    rw c.end.ensures.end (λ come. inr (over_walking (known_in c.args.self.now) h.texts c.args.trees.now es h.over come, walked_parts (known_in c.args.self.now) c.args.trees.now es h, content_unindexed (known_in c.args.self.now) c.args.trees.now es h c.in-Missing.name decided.0 decided.1))
