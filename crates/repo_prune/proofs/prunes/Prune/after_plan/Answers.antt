use Rattle.std.proofs.Common.{[], Vec, Global, ap, ◌∙◌}
use Rattle.std.proofs.lemmas.Result.{IfOk-weaker}
use Rattle.repo_index.specs.declared.facts.Fact.{Fact}
use Rattle.repo_index.specs.declared.facts.PackFacts.{PackFacts}
use Rattle.repo_writing.specs.declared.targets.Target.{Target}
use Rattle.repo_prune.specs.PruneStates.{known_in}
use Rattle.repo_prune.proofs.PruneMoves.{begins_moving, none_received, all_moved, goes_on}
use Rattle.repo_prune.proofs.prunes.Prune.after_plan.Goals as goal

pub returns-in-Done-clause-on : goal.returns-in-Done-clause-on
returns-in-Done-clause-on c = IfOk-weaker c.after_moves.result _ _ (λ onward comes who es w h.
    let k = known_in c.args.self.now in
    let m = c.new-moving.result in
    let is = c.new-moving.ensures in
    let begun = begins_moving k m c.args.plan.kept.items c.args.plan.moves.items es h is.moving (ap (λ (v : Vec PackFacts Global). v.items) is.listed) (ap (λ (v : Vec Fact Global). v.items) is.moves) (ap (λ (t : Target). t.bytes) is.target) in
    let on = rw c.in-Done.is at c.in_ok-moved.ensures.on in
    comes who es w (all_moved k m c.next.new.self [] es begun c.next.ensures.moves c.next.ensures.target who c.args.token w (on [] [] is.moving))) c.after_moves.ensures.on

pub returns-in_default : goal.returns-in_default
returns-in_default c = record {
  on = λ who es w h.
      let k = known_in c.args.self.now in
      let m = c.new-moving.result in
      let is = c.new-moving.ensures in
      let begun = begins_moving k m c.args.plan.kept.items c.args.plan.moves.items es h is.moving (ap (λ (v : Vec PackFacts Global). v.items) is.listed) (ap (λ (v : Vec Fact Global). v.items) is.moves) (ap (λ (t : Target). t.bytes) is.target) in
      let got = none_received c.next.new.self es h.parts (c.next.ensures.added ∙ is.added) in
      goes_on k m c.next.new.self [] es begun c.next.ensures.moves c.next.ensures.target who c.args.token w got c.in_ok-moved.moved c.move_on-step.result c.in_default.not-Done (c.in_ok-moved.ensures.on [] [] is.moving) c.move_on-step.ensures.on;
  short = c.move_on-step.ensures.short;
}
