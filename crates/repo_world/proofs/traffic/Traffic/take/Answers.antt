use Rattle.std.proofs.Common.{rules, ◌≡◌, ◌∙◌, ◌<◌, ◌-◌, ◌++◌, ◌∷◌, [], inl, true, false, List, length, slice_set, slice_index_or, refl, sym, ap, subst}
use Rattle.std.proofs.lemmas.List.{get_or_default}
use Rattle.repo_session.specs.Clients.{AnswersNext}
use Rattle.repo_world.specs.Events.{Arrives}
use Rattle.repo_world.specs.Flows.{Flow, FlowStands, seat_at, world_of}
use Rattle.repo_world.specs.inner.Seating.{SeatTook, TookReply}
use Rattle.repo_world.specs.Seats.{Seated, empty_seat, silence}
use Rattle.repo_world.specs.declared.events.Applied.{Applied}
use Rattle.repo_world.specs.declared.messages.Message.{Message}
use Rattle.repo_world.specs.declared.seats.Arrival.{Arrival}
use Rattle.repo_world.proofs.FlowParts.{asked_from, kept_stands, none_from, last_is, last_stands, more_is, more_stands, stopped, takes, unawaited}
use Rattle.repo_world.proofs.Flowing.{within_replies}
use Rattle.repo_world.proofs.traffic.Traffic.take.Goals as goal

pub invariant_of-self : goal.invariant_of-self
invariant_of-self c =
    let seats = c.self.inside.seats.items in
    let messages = c.self.inside.messages.items in
    let k = c.args.client in
    let s = c.index_mut-seat.result.now in
    let less : k < length seats = within_replies seats k c.args.reply (subst (λ (f : Flow). c.args.reply < length (seat_at f.seats k).replies) (sym c.self.view_is) c.requires) in
    let found : seat_at seats k ≡ s = get_or_default seats k empty_seat s less ∙ sym c.index_mut-seat.ensures.value in
    kept_stands seats messages k c.self.invariant less s (sym found)

pub returns-then-is_crashed-clause-arrives : goal.returns-then-is_crashed-clause-arrives
returns-then-is_crashed-clause-arrives c = λ store.
    let seats = c.self.inside.seats.items in
    let messages = c.self.inside.messages.items in
    let k = c.args.client in
    let s = c.index_mut-seat.result.now in
    let less : k < length seats = within_replies seats k c.args.reply (subst (λ (f : Flow). c.args.reply < length (seat_at f.seats k).replies) (sym c.self.view_is) c.requires) in
    let found : seat_at seats k ≡ s = get_or_default seats k empty_seat s less ∙ sym c.index_mut-seat.ensures.value in
    let crashed : (seat_at seats k).client.crashed ≡ true = ap (λ (x : Seated). x.client.crashed) found ∙ sym c.is_crashed.ensures ∙ c.if-is_crashed.true in
    subst (λ (f : Flow). Arrives (world_of store f) k (slice_index_or (seat_at f.seats k).replies c.args.reply silence) Applied.Ignored (world_of store (record { seats = slice_set seats k s; messages = messages }))) c.self.view_is
    (stopped seats messages k c.self.invariant less (slice_index_or (seat_at seats k).replies c.args.reply silence) s (sym found) crashed store)

pub invariant_of-self-in_err-reserve : goal.invariant_of-self-in_err-reserve
invariant_of-self-in_err-reserve c =
    let seats = c.self.inside.seats.items in
    let messages = c.self.inside.messages.items in
    let k = c.args.client in
    let s = c.index_mut-seat.result.now in
    let less : k < length seats = within_replies seats k c.args.reply (subst (λ (f : Flow). c.args.reply < length (seat_at f.seats k).replies) (sym c.self.view_is) c.requires) in
    let found : seat_at seats k ≡ s = get_or_default seats k empty_seat s less ∙ sym c.index_mut-seat.ensures.value in
    let rest : c.reserve.new.self.items ≡ messages = search rules in
    subst (FlowStands (slice_set seats k s)) (sym rest) (kept_stands seats messages k c.self.invariant less s (sym found))

pub invariant_of-self-in_err-take : goal.invariant_of-self-in_err-take
invariant_of-self-in_err-take c =
    let seats = c.self.inside.seats.items in
    let messages = c.self.inside.messages.items in
    let k = c.args.client in
    let s = c.index_mut-seat.result.now in
    let less : k < length seats = within_replies seats k c.args.reply (subst (λ (f : Flow). c.args.reply < length (seat_at f.seats k).replies) (sym c.self.view_is) c.requires) in
    let found : seat_at seats k ≡ s = get_or_default seats k empty_seat s less ∙ sym c.index_mut-seat.ensures.value in
    let rest : c.reserve.new.self.items ≡ messages = search rules in
    subst (FlowStands (slice_set seats k c.take.new.self)) (sym rest) (kept_stands seats messages k c.self.invariant less c.take.new.self (c.in_err-take.ensures.err ∙ sym found))

pub invariant_of-self-in-Unawaited : goal.invariant_of-self-in-Unawaited
invariant_of-self-in-Unawaited c =
    let seats = c.self.inside.seats.items in
    let messages = c.self.inside.messages.items in
    let k = c.args.client in
    let place = c.args.reply in
    let s = c.index_mut-seat.result.now in
    let new = c.take.new.self in
    let less : k < length seats = within_replies seats k place (subst (λ (f : Flow). place < length (seat_at f.seats k).replies) (sym c.self.view_is) c.requires) in
    let found : seat_at seats k ≡ s = get_or_default seats k empty_seat s less ∙ sym c.index_mut-seat.ensures.value in
    let rest : c.reserve.new.self.items ≡ messages = search rules in
    let took : SeatTook s place new Arrival.Unawaited = subst (SeatTook s place new) c.in-Unawaited.is c.in_ok-take.ensures.took in
    subst (FlowStands (slice_set seats k new)) (sym rest) (kept_stands seats messages k c.self.invariant less new (took.2 ∙ sym found))

pub invariant_of-self-in-Continue-branch-4 : goal.invariant_of-self-in-Continue-branch-4
invariant_of-self-in-Continue-branch-4 c =
    let seats = c.self.inside.seats.items in
    let messages = c.self.inside.messages.items in
    let k = c.args.client in
    let place = c.args.reply in
    let s = c.index_mut-seat.result.now in
    let new = c.take.new.self in
    let less : k < length seats = within_replies seats k place (subst (λ (f : Flow). place < length (seat_at f.seats k).replies) (sym c.self.view_is) c.requires) in
    let found : seat_at seats k ≡ s = get_or_default seats k empty_seat s less ∙ sym c.index_mut-seat.ensures.value in
    let reply = slice_index_or (seat_at seats k).replies place silence in
    let took : SeatTook s place new Arrival.Taken = subst (SeatTook s place new) c.in-Taken.is c.in_ok-take.ensures.took in
    let t : TookReply (seat_at seats k) reply new = subst (λ (x : Seated). TookReply x (slice_index_or x.replies place silence) new) (sym found) took in
    let next = asked_from _ c.pending.result new.client.next c.pending.ensures (sym c.is_some.ensures ∙ c.if-is_some.true) in
    let pushed : c.push.new.self.items ≡ messages ++ Message.Asked k (c.requests-request.result - 1) ∷ [] = search rules in
    let last : c.push.new.self.items ≡ messages ++ Message.Asked k (length new.requests - 1) ∷ [] = pushed ∙ ap (λ n. messages ++ Message.Asked k (n - 1) ∷ []) c.requests-request.ensures in
    subst (FlowStands (slice_set seats k new)) (sym last) (more_stands seats messages k c.self.invariant less new t.requests t.replies next.0 next.1 t.ruled)

pub invariant_of-self-else-is_some : goal.invariant_of-self-else-is_some
invariant_of-self-else-is_some c =
    let seats = c.self.inside.seats.items in
    let messages = c.self.inside.messages.items in
    let k = c.args.client in
    let place = c.args.reply in
    let s = c.index_mut-seat.result.now in
    let new = c.take.new.self in
    let less : k < length seats = within_replies seats k place (subst (λ (f : Flow). place < length (seat_at f.seats k).replies) (sym c.self.view_is) c.requires) in
    let found : seat_at seats k ≡ s = get_or_default seats k empty_seat s less ∙ sym c.index_mut-seat.ensures.value in
    let reply = slice_index_or (seat_at seats k).replies place silence in
    let took : SeatTook s place new Arrival.Taken = subst (SeatTook s place new) c.in-Taken.is c.in_ok-take.ensures.took in
    let t : TookReply (seat_at seats k) reply new = subst (λ (x : Seated). TookReply x (slice_index_or x.replies place silence) new) (sym found) took in
    let rest : c.reserve.new.self.items ≡ messages = search rules in
    let none = none_from _ c.pending.result new.client.next c.pending.ensures (sym c.is_some.ensures ∙ c.if-is_some.false) in
    subst (FlowStands (slice_set seats k new)) (sym rest) (last_stands seats messages k c.self.invariant less new t.requests t.replies none t.ruled)

pub returns-in-Unawaited-clause-arrives : goal.returns-in-Unawaited-clause-arrives
returns-in-Unawaited-clause-arrives c = λ store.
    let seats = c.self.inside.seats.items in
    let messages = c.self.inside.messages.items in
    let k = c.args.client in
    let place = c.args.reply in
    let s = c.index_mut-seat.result.now in
    let new = c.take.new.self in
    let less : k < length seats = within_replies seats k place (subst (λ (f : Flow). place < length (seat_at f.seats k).replies) (sym c.self.view_is) c.requires) in
    let found : seat_at seats k ≡ s = get_or_default seats k empty_seat s less ∙ sym c.index_mut-seat.ensures.value in
    let rest : c.reserve.new.self.items ≡ messages = search rules in
    let took : SeatTook s place new Arrival.Unawaited = subst (SeatTook s place new) c.in-Unawaited.is c.in_ok-take.ensures.took in
    let reply = slice_index_or (seat_at seats k).replies place silence in
    let running : (seat_at seats k).client.crashed ≡ false = ap (λ (x : Seated). x.client.crashed) found ∙ took.0 in
    let other : ¬ AnswersNext (seat_at seats k).client.next reply = subst (λ (x : Seated). ¬ AnswersNext x.client.next (slice_index_or x.replies place silence)) (sym found) took.1 in
    let Is : Flow → List Message → Type 0 = λ f ms. Arrives (world_of store f) k (slice_index_or (seat_at f.seats k).replies place silence) Applied.Done (world_of store (record { seats = slice_set seats k new; messages = ms })) in
    subst (λ (f : Flow). Is f c.reserve.new.self.items) c.self.view_is
    (subst (Is (record { seats = seats; messages = messages })) (sym rest) (unawaited seats messages k c.self.invariant less reply new (took.2 ∙ sym found) running other store))

pub returns-in_ok-push-in-Taken-clause-arrives : goal.returns-in_ok-push-in-Taken-clause-arrives
returns-in_ok-push-in-Taken-clause-arrives c = λ store.
    let seats = c.self.inside.seats.items in
    let messages = c.self.inside.messages.items in
    let k = c.args.client in
    let place = c.args.reply in
    let s = c.index_mut-seat.result.now in
    let new = c.take.new.self in
    let less : k < length seats = within_replies seats k place (subst (λ (f : Flow). place < length (seat_at f.seats k).replies) (sym c.self.view_is) c.requires) in
    let found : seat_at seats k ≡ s = get_or_default seats k empty_seat s less ∙ sym c.index_mut-seat.ensures.value in
    let reply = slice_index_or (seat_at seats k).replies place silence in
    let took : SeatTook s place new Arrival.Taken = subst (SeatTook s place new) c.in-Taken.is c.in_ok-take.ensures.took in
    let t : TookReply (seat_at seats k) reply new = subst (λ (x : Seated). TookReply x (slice_index_or x.replies place silence) new) (sym found) took in
    let next = asked_from _ c.pending.result new.client.next c.pending.ensures (sym c.is_some.ensures ∙ c.if-is_some.true) in
    let pushed : c.push.new.self.items ≡ messages ++ Message.Asked k (c.requests-request.result - 1) ∷ [] = search rules in
    let last : c.push.new.self.items ≡ messages ++ Message.Asked k (length new.requests - 1) ∷ [] = pushed ∙ ap (λ n. messages ++ Message.Asked k (n - 1) ∷ []) c.requests-request.ensures in
    let Is : Flow → List Message → Type 0 = λ f ms. Arrives (world_of store f) k (slice_index_or (seat_at f.seats k).replies place silence) Applied.Done (world_of store (record { seats = slice_set seats k new; messages = ms })) in
    subst (λ (f : Flow). Is f c.push.new.self.items) c.self.view_is
    (subst (Is (record { seats = seats; messages = messages })) (sym last) (inl (refl, takes seats messages k c.self.invariant less reply new t store _ (more_is seats messages k c.self.invariant less new t.requests t.replies next.0 next.1 store))))

pub returns-else-is_some-clause-arrives : goal.returns-else-is_some-clause-arrives
returns-else-is_some-clause-arrives c = λ store.
    let seats = c.self.inside.seats.items in
    let messages = c.self.inside.messages.items in
    let k = c.args.client in
    let place = c.args.reply in
    let s = c.index_mut-seat.result.now in
    let new = c.take.new.self in
    let less : k < length seats = within_replies seats k place (subst (λ (f : Flow). place < length (seat_at f.seats k).replies) (sym c.self.view_is) c.requires) in
    let found : seat_at seats k ≡ s = get_or_default seats k empty_seat s less ∙ sym c.index_mut-seat.ensures.value in
    let reply = slice_index_or (seat_at seats k).replies place silence in
    let took : SeatTook s place new Arrival.Taken = subst (SeatTook s place new) c.in-Taken.is c.in_ok-take.ensures.took in
    let t : TookReply (seat_at seats k) reply new = subst (λ (x : Seated). TookReply x (slice_index_or x.replies place silence) new) (sym found) took in
    let none = none_from _ c.pending.result new.client.next c.pending.ensures (sym c.is_some.ensures ∙ c.if-is_some.false) in
    let rest : c.reserve.new.self.items ≡ messages = search rules in
    let Is : Flow → List Message → Type 0 = λ f ms. Arrives (world_of store f) k (slice_index_or (seat_at f.seats k).replies place silence) Applied.Done (world_of store (record { seats = slice_set seats k new; messages = ms })) in
    subst (λ (f : Flow). Is f c.reserve.new.self.items) c.self.view_is
    (subst (Is (record { seats = seats; messages = messages })) (sym rest) (inl (refl, takes seats messages k c.self.invariant less reply new t store _ (last_is seats messages k c.self.invariant less new t.requests t.replies none store))))
