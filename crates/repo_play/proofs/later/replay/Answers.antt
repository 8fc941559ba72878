use Rattle.std.proofs.Common.{◌≡◌, ◌∙◌, ◌<◌, ◌+◌, length, sym, ap, subst, arith}
use Rattle.repo_world.specs.Stages.{Stage, seen}
use Rattle.repo_world.specs.declared.events.Event.{Event}
use Rattle.repo_play.proofs.Places.{as_many}
use Rattle.repo_play.proofs.Replaying.{IsReplayed, IsRequest, grown, passed_over, replayed}
use Rattle.repo_play.proofs.later.replay.Goals as goal
use Rattle.repo_play.proofs.later.replay.Goals.{then-is_request+in_ok-happen, else-is_request}

pub loop-place-preserved : goal.loop-place-preserved
loop-place-preserved g c =
    let store = g.S.Shelf.store in
    let w = seen store c.args.world.now in
    let u = seen store c.loop-place.world in
    let place = c.loop-place.place in
    let i = c.loop-place.invariant in
    let count : length c.messages-count.result.now ≡ length w.messages = ap length c.messages-count.ensures ∙ as_many c.args.world.now.flow in
    let test = c.loop-place-test.true in
    let less : place < length w.messages = omega (arith, count, test) in
    elim c.if-is_request.branch [
      | then-is_request+in_ok-happen b ↦
          (let v = seen store b.happen.new.world in
          let happens = b.in_ok-happen.ensures in
          let asked = c.is_request.ensures.0 b.if-is_request.true in
          subst (λ (s : Stage g.row.S.Denot). IsReplayed w (place + 1) (seen store s)) (sym b.world-is)
          (grown w u (Event.Deliver place) b.in_ok-happen.field-0 v i.0 happens, replayed w u place b.in_ok-happen.field-0 v less i.0 i.1 asked happens))
      | else-is_request b ↦
          (let none = λ (asked : IsRequest u.messages place). (let t = c.is_request.ensures.1 asked in let f = b.if-is_request.false in absurd (cc)) in
          subst (λ (s : Stage g.row.S.Denot). IsReplayed w (place + 1) (seen store s)) (sym b.world-is) (i.0, passed_over w u place less i.0 i.1 none))
    ]
