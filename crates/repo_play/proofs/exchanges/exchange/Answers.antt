use Rattle.std.proofs.Common.{◌≡◌, ◌∙◌, length, ap, subst}
use Rattle.repo_world.specs.Events.{Happens}
use Rattle.repo_world.specs.Stages.{seen}
use Rattle.repo_world.specs.declared.events.Event.{Event}
use Rattle.repo_play.proofs.Growing.{two_happen}
use Rattle.repo_play.proofs.Places.{as_many}
use Rattle.repo_play.proofs.exchanges.exchange.Goals as goal

pub returns : goal.returns
returns g c =
    let store = g.S.Shelf.store in
    let w = seen store c.args.world.now in
    let u = seen store c.happen.new.world in
    let v = seen store c.happen-2.new.world in
    let same : length c.messages-reply.result.now ≡ length w.messages = ap length c.messages-reply.ensures ∙ as_many c.args.world.now.flow in
    let last = subst (λ n. Happens ⊥ u (Event.Deliver n) c.in_ok-happen-2.field-0 v) same c.in_ok-happen-2.ensures in
    record {
      happen = two_happen w c.args.event c.in_ok-happen.field-0 u (Event.Deliver (length w.messages)) c.in_ok-happen-2.field-0 v c.in_ok-happen.ensures last;
      sense = λ e. absurd (cc);
      few = λ e. absurd (cc);
      carried = tt;
    }
