use Rattle.std.proofs.Common.{rules, ◌≡◌, ◌∙◌, ◌<◌, ◌++◌, ◌∷◌, [], List, length, slice_set, slice_index_or, sym, ap, subst}
use Rattle.std.proofs.lemmas.List.{get_or_default}
use Rattle.repo_world.specs.Events.{Serves}
use Rattle.repo_world.specs.Flows.{Flow, FlowStands, seat_at, world_of}
use Rattle.repo_world.specs.inner.Seating.{Answered, Replied, StepsAsArmed}
use Rattle.repo_world.specs.Seats.{Seated, empty_seat, nothing}
use Rattle.repo_world.specs.declared.messages.Message.{Message}
use Rattle.repo_world.proofs.FlowParts.{kept_stands, served, served_stands}
use Rattle.repo_world.proofs.Flowing.{within_requests}
use Rattle.repo_world.proofs.traffic.Traffic.serve.Goals as goal

pub invariant_of-self-in_err-serve : goal.invariant_of-self-in_err-serve
invariant_of-self-in_err-serve g c =
    let seats = c.self.inside.seats.items in
    let messages = c.self.inside.messages.items in
    let k = c.args.client in
    let less : k < length seats = within_requests seats k c.args.request (subst (λ (f : Flow). c.args.request < length (seat_at f.seats k).requests) (sym c.self.view_is) c.requires) in
    let found : seat_at seats k ≡ c.index_mut-seat.result.now = get_or_default seats k empty_seat c.index_mut-seat.result.now less ∙ sym c.index_mut-seat.ensures.value in
    let rest : c.reserve.new.self.items ≡ messages = search rules in
    subst (FlowStands (slice_set seats k c.serve.new.self)) (sym rest) (kept_stands seats messages k c.self.invariant less c.serve.new.self (c.in_err-serve.ensures.err ∙ sym found))

pub invariant_of-self-2 : goal.invariant_of-self-2
invariant_of-self-2 g c =
    let seats = c.self.inside.seats.items in
    let messages = c.self.inside.messages.items in
    let k = c.args.client in
    let less : k < length seats = within_requests seats k c.args.request (subst (λ (f : Flow). c.args.request < length (seat_at f.seats k).requests) (sym c.self.view_is) c.requires) in
    let found : seat_at seats k ≡ c.index_mut-seat.result.now = get_or_default seats k empty_seat c.index_mut-seat.result.now less ∙ sym c.index_mut-seat.ensures.value in
    let place : c.replies-reply.result ≡ length (seat_at seats k).replies = c.replies-reply.ensures ∙ ap (λ (x : Seated). length x.replies) (sym found) in
    let pushed : c.push.new.self.items ≡ messages ++ Message.Said k c.replies-reply.result ∷ [] = search rules in
    let replied : Replied (seat_at seats k) c.serve.new.self = subst (λ (o : Seated). Replied o c.serve.new.self) (sym found) c.in_ok-serve.ensures.replied in
    subst (FlowStands (slice_set seats k c.serve.new.self)) (sym (pushed ∙ ap (λ n. messages ++ Message.Said k n ∷ []) place))
    (served_stands seats messages k c.self.invariant less c.serve.new.self replied.0 replied.1)

pub returns-clause-serves : goal.returns-clause-serves
returns-clause-serves g c h =
    let seats = c.self.inside.seats.items in
    let messages = c.self.inside.messages.items in
    let k = c.args.client in
    let request = c.args.request in
    let from = g.S.Shelf.store c.args.shelf.now in
    let armed = g.S.Shelf.armed c.args.shelf.now in
    let own = g.S.Shelf.own c.args.shelf.now in
    let to = g.S.Shelf.store c.serve.new.shelf in
    let left = g.S.Shelf.armed c.serve.new.shelf in
    let owned = g.S.Shelf.own c.serve.new.shelf in
    let s = c.serve.new.self in
    let less : k < length seats = within_requests seats k request (subst (λ (f : Flow). request < length (seat_at f.seats k).requests) (sym c.self.view_is) c.requires) in
    let found : seat_at seats k ≡ c.index_mut-seat.result.now = get_or_default seats k empty_seat c.index_mut-seat.result.now less ∙ sym c.index_mut-seat.ensures.value in
    let place : c.replies-reply.result ≡ length (seat_at seats k).replies = c.replies-reply.ensures ∙ ap (λ (x : Seated). length x.replies) (sym found) in
    let pushed : c.push.new.self.items ≡ messages ++ Message.Said k c.replies-reply.result ∷ [] = search rules in
    let answered : Answered (seat_at seats k) request s from armed own to left owned = subst (λ (o : Seated). Answered o request s from armed own to left owned) (sym found) (c.in_ok-serve.ensures.answered h) in
    let Is : Flow → List Message → Type 0 = λ f ms. Serves (StepsAsArmed armed own left owned) (world_of from f) k (slice_index_or (seat_at f.seats k).requests request nothing) (world_of to (record { seats = slice_set seats k s; messages = ms })) in
    subst (λ (f : Flow). Is f c.push.new.self.items) c.self.view_is
    (subst (Is (record { seats = seats; messages = messages })) (sym (pushed ∙ ap (λ n. messages ++ Message.Said k n ∷ []) place)) (served seats messages k c.self.invariant less request s from armed own to left owned answered))
