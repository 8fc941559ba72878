use Rattle.std.proofs.Common.{rules, ◌≡◌, ◌∙◌, ◌++◌, ◌∷◌, [], List, Some, slice_get, slice_index_or, sym, ap, subst}
use Rattle.std.proofs.lemmas.Option.{get_or_from_slice_get}
use Rattle.repo_wire.specs.declared.messages.Reply.{Reply}
use Rattle.repo_wire.specs.declared.messages.Request.{Request}
use Rattle.repo_session.specs.Clients.{IsReplyTo}
use Rattle.repo_world.specs.inner.Seating.{Answered, Replied, StepsAsArmed}
use Rattle.repo_world.specs.Seats.{IsSeated, Seated, nothing, requests_of, seated}
use Rattle.repo_world.proofs.SeatParts.{replied_is, replied_seated}
use Rattle.repo_world.proofs.seats.Seat.serve.Goals as goal

pub invariant_of-self-3 : goal.invariant_of-self-3
invariant_of-self-3 g c =
    let seat = c.self.inside in
    let pushed : c.push.new.self.items ≡ seat.replies.items ++ c.answer-reply.result ∷ [] = search rules in
    subst (IsSeated seat.client seat.pasts.items seat.fed.items) (sym pushed) (replied_seated seat.client seat.pasts.items seat.fed.items seat.replies.items seat.crashed c.self.invariant c.answer-reply.result)

pub returns-clause-replied : goal.returns-clause-replied
returns-clause-replied g c =
    let seat = c.self.inside in
    let reply = c.answer-reply.result in
    let pushed : c.push.new.self.items ≡ seat.replies.items ++ reply ∷ [] = search rules in
    let State : List Reply → Seated = λ rs. seated seat.client seat.pasts.items seat.fed.items rs seat.crashed in
    subst (λ (o : Seated). Replied o (State c.push.new.self.items)) c.self.view_is (reply, ap State pushed ∙ replied_is seat.client seat.pasts.items seat.fed.items seat.replies.items seat.crashed c.self.invariant reply)

pub returns-clause-answered : goal.returns-clause-answered
returns-clause-answered g c h =
    let seat = c.self.inside in
    let reply = c.answer-reply.result in
    let place = c.args.place in
    let from = g.S.Shelf.store c.args.shelf.now in
    let armed = g.S.Shelf.armed c.args.shelf.now in
    let own = g.S.Shelf.own c.args.shelf.now in
    let to = g.S.Shelf.store c.answer-reply.new.shelf in
    let left = g.S.Shelf.armed c.answer-reply.new.shelf in
    let owned = g.S.Shelf.own c.answer-reply.new.shelf in
    let requests = requests_of seat.client seat.pasts.items in
    let pushed : c.push.new.self.items ≡ seat.replies.items ++ reply ∷ [] = search rules in
    let got : slice_get requests place ≡ Some c.in-Some.request.now = sym c.in-Some.ensures.request in
    let same = get_or_from_slice_get requests place c.in-Some.request.now nothing got in
    let says = c.answer-reply.ensures.replies h in
    let Is : Request → Type 0 = λ q. IsReplyTo q reply × StepsAsArmed armed own left owned from q.ask reply.say to in
    let both : Is (slice_index_or requests place nothing) = subst Is (sym same) ((says.instance, says.sequence), (says.step, c.answer-reply.ensures.armed h)) in
    let State : List Reply → Seated = λ rs. seated seat.client seat.pasts.items seat.fed.items rs seat.crashed in
    subst (λ (o : Seated). Answered o place (State c.push.new.self.items) from armed own to left owned) c.self.view_is (record {
      reply = reply;
      answers = both.0;
      step = both.1;
      is = ap State pushed ∙ replied_is seat.client seat.pasts.items seat.fed.items seat.replies.items seat.crashed c.self.invariant reply;
    })
