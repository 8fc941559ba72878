use Rattle.std.proofs.Common.{rules, ◌≡◌, true, refl}
use Rattle.std.specs.Option.{is_some}
use Rattle.repo_world.specs.Stages.{seen}
use Rattle.repo_play.proofs.Places.{there_by}
use Rattle.repo_play.proofs.Stepping.{go_more, may_there}
use Rattle.repo_play.proofs.going.go.Goals as goal

pub loop-made-init : goal.loop-made-init
loop-made-init g c =
    let w = seen g.S.Shelf.store c.args.world.now in
    let some : is_some c.last_request.result ≡ true = search rules in
    let there = there_by w c.args.client c.last_request.result some c.last_request.ensures in
    record { first = there; there = there; steps = refl }

pub loop-made-preserved : goal.loop-made-preserved
loop-made-preserved g c =
    let store = g.S.Shelf.store in
    let i = c.loop-made.invariant in
    let u = seen store c.loop-made.world in
    let v = seen store c.step.new.world in
    let step = c.in_ok-step.ensures.steps in
    record {
      first = i.first;
      there = may_there u c.args.client v step.1 i.there;
      steps = go_more c.args.sort c.loop-made.made (seen store c.args.world.now) c.args.client u v i.steps (λ over. (let t = c.is_over.ensures.1 over in let f = c.if-is_over.false in absurd (cc))) step.1;
    }
