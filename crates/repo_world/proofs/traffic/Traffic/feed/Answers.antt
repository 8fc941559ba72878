use Rattle.std.proofs.Common.{rules, ◌≡◌, ◌∙◌, ◌<◌, ◌-◌, ◌++◌, ◌∷◌, [], inl, inr, true, false, List, length, slice_set, refl, sym, ap, subst}
use Rattle.std.proofs.lemmas.List.{get_or_default}
use Rattle.repo_backup.specs.Items.{fed_part}
use Rattle.repo_world.specs.Clients.{Client, MayBeFed}
use Rattle.repo_world.specs.Events.{Gives}
use Rattle.repo_world.specs.Flows.{Flow, FlowStands, seat_at, world_of}
use Rattle.repo_world.specs.inner.Seating.{SeatFed, TookItem}
use Rattle.repo_world.specs.Seats.{Seated, empty_seat}
use Rattle.repo_world.specs.declared.events.Applied.{Applied}
use Rattle.repo_world.specs.declared.messages.Message.{Message}
use Rattle.repo_world.specs.declared.seats.Intake.{Intake}
use Rattle.repo_world.proofs.FlowParts.{asked_from, fed_told, kept_stands, last_is, last_stands, more_is, more_stands, none_from, same_world, unfeeds}
use Rattle.repo_world.proofs.Flowing.{client_there}
use Rattle.repo_world.proofs.traffic.Traffic.feed.Goals as goal

-- ---- no such client runs that is fed

pub invariant_of-self : goal.invariant_of-self
invariant_of-self c =
    let seats = c.self.inside.seats.items in
    let messages = c.self.inside.messages.items in
    let k = c.args.client in
    let s = c.index_mut-seat.result.now in
    let less : k < length seats = search rules in
    let found : seat_at seats k ≡ s = get_or_default seats k empty_seat s less ∙ sym c.index_mut-seat.ensures.value in
    kept_stands seats messages k c.self.invariant less s (sym found)

pub returns-then-not-may_be_fed-clause-gives : goal.returns-then-not-may_be_fed-clause-gives
returns-then-not-may_be_fed-clause-gives c = λ store.
    let seats = c.self.inside.seats.items in
    let messages = c.self.inside.messages.items in
    let k = c.args.client in
    let s = c.index_mut-seat.result.now in
    let less : k < length seats = search rules in
    let found : seat_at seats k ≡ s = get_or_default seats k empty_seat s less ∙ sym c.index_mut-seat.ensures.value in
    let other : ¬ MayBeFed s.client = λ may. (let yes : c.may_be_fed.result ≡ true = c.may_be_fed.ensures.1 may in let no : c.may_be_fed.result ≡ false = c.if-not-may_be_fed.true in absurd (cc)) in
    subst (λ (f : Flow). Gives (world_of store f) k c.args.item Applied.Ignored (world_of store (record { seats = slice_set seats k s; messages = messages }))) c.self.view_is
    (inr (inr (inr (refl, subst (λ (x : Client). ¬ MayBeFed x) (sym (client_there seats k ∙ ap (λ (x : Seated). x.client) found)) other, same_world seats messages k c.self.invariant less s (sym found) store))))

pub invariant_of-self-in_err-reserve : goal.invariant_of-self-in_err-reserve
invariant_of-self-in_err-reserve c =
    let seats = c.self.inside.seats.items in
    let messages = c.self.inside.messages.items in
    let k = c.args.client in
    let s = c.index_mut-seat.result.now in
    let less : k < length seats = search rules in
    let found : seat_at seats k ≡ s = get_or_default seats k empty_seat s less ∙ sym c.index_mut-seat.ensures.value in
    let rest : c.reserve.new.self.items ≡ messages = search rules in
    subst (FlowStands (slice_set seats k s)) (sym rest) (kept_stands seats messages k c.self.invariant less s (sym found))

-- ---- it failed, or was refused

pub invariant_of-self-in_err-error : goal.invariant_of-self-in_err-error
invariant_of-self-in_err-error c =
    let seats = c.self.inside.seats.items in
    let messages = c.self.inside.messages.items in
    let k = c.args.client in
    let s = c.index_mut-seat.result.now in
    let less : k < length seats = search rules in
    let found : seat_at seats k ≡ s = get_or_default seats k empty_seat s less ∙ sym c.index_mut-seat.ensures.value in
    let rest : c.reserve.new.self.items ≡ messages = search rules in
    subst (FlowStands (slice_set seats k c.feed.new.self)) (sym rest) (kept_stands seats messages k c.self.invariant less c.feed.new.self (c.in_err-error.ensures.err ∙ sym found))

pub invariant_of-self-in-Unfed : goal.invariant_of-self-in-Unfed
invariant_of-self-in-Unfed c =
    let seats = c.self.inside.seats.items in
    let messages = c.self.inside.messages.items in
    let k = c.args.client in
    let s = c.index_mut-seat.result.now in
    let new = c.feed.new.self in
    let less : k < length seats = search rules in
    let found : seat_at seats k ≡ s = get_or_default seats k empty_seat s less ∙ sym c.index_mut-seat.ensures.value in
    let rest : c.reserve.new.self.items ≡ messages = search rules in
    let fed : SeatFed s c.args.item new (Intake.Unfed c.in-Unfed.error) = subst (SeatFed s c.args.item new) c.in-Unfed.is c.in_ok-error.ensures.fed in
    subst (FlowStands (slice_set seats k new)) (sym rest) (kept_stands seats messages k c.self.invariant less new (fed.1 ∙ sym found))

pub returns-in-Unfed-clause-gives : goal.returns-in-Unfed-clause-gives
returns-in-Unfed-clause-gives c = λ store.
    let seats = c.self.inside.seats.items in
    let messages = c.self.inside.messages.items in
    let k = c.args.client in
    let error = c.in-Unfed.error in
    let s = c.index_mut-seat.result.now in
    let new = c.feed.new.self in
    let less : k < length seats = search rules in
    let found : seat_at seats k ≡ s = get_or_default seats k empty_seat s less ∙ sym c.index_mut-seat.ensures.value in
    let rest : c.reserve.new.self.items ≡ messages = search rules in
    let may : MayBeFed s.client = c.may_be_fed.ensures.0 c.if-not-may_be_fed.false in
    let fed : SeatFed s c.args.item new (Intake.Unfed error) = subst (SeatFed s c.args.item new) c.in-Unfed.is c.in_ok-error.ensures.fed in
    let at : SeatFed (seat_at seats k) c.args.item new (Intake.Unfed error) = subst (λ (x : Seated). SeatFed x c.args.item new (Intake.Unfed error)) (sym found) fed in
    let Is : Flow → List Message → Type 0 = λ f ms. Gives (world_of store f) k c.args.item (Applied.Unfed error) (world_of store (record { seats = slice_set seats k new; messages = ms })) in
    subst (λ (f : Flow). Is f c.reserve.new.self.items) c.self.view_is
    (subst (Is (record { seats = seats; messages = messages })) (sym rest)
    (inr (inr (inl (error, refl, unfeeds seats messages k c.self.invariant less c.args.item error new at.1 (subst (λ (x : Seated). MayBeFed x.client) (sym found) may) at.0 store)))))

-- ---- it was taken

pub invariant_of-self-in-Continue-branch-4 : goal.invariant_of-self-in-Continue-branch-4
invariant_of-self-in-Continue-branch-4 c =
    let seats = c.self.inside.seats.items in
    let messages = c.self.inside.messages.items in
    let k = c.args.client in
    let n = c.in-Taken.count in
    let s = c.index_mut-seat.result.now in
    let new = c.feed.new.self in
    let less : k < length seats = search rules in
    let found : seat_at seats k ≡ s = get_or_default seats k empty_seat s less ∙ sym c.index_mut-seat.ensures.value in
    let fed : SeatFed s c.args.item new (Intake.Taken n) = subst (SeatFed s c.args.item new) c.in-Taken.is c.in_ok-error.ensures.fed in
    let t : TookItem (seat_at seats k) (fed_part n c.args.item) new = subst (λ (x : Seated). TookItem x (fed_part n c.args.item) new) (sym found) fed.1 in
    let next = asked_from _ c.pending.result new.client.next c.pending.ensures (sym c.is_some-asks.ensures ∙ c.if-asks.true) in
    let pushed : c.push.new.self.items ≡ messages ++ Message.Asked k (c.requests-request.result - 1) ∷ [] = search rules in
    let last : c.push.new.self.items ≡ messages ++ Message.Asked k (length new.requests - 1) ∷ [] = pushed ∙ ap (λ m. messages ++ Message.Asked k (m - 1) ∷ []) c.requests-request.ensures in
    subst (FlowStands (slice_set seats k new)) (sym last) (more_stands seats messages k c.self.invariant less new t.requests t.replies next.0 next.1 t.ruled)

pub invariant_of-self-else-asks : goal.invariant_of-self-else-asks
invariant_of-self-else-asks c =
    let seats = c.self.inside.seats.items in
    let messages = c.self.inside.messages.items in
    let k = c.args.client in
    let n = c.in-Taken.count in
    let s = c.index_mut-seat.result.now in
    let new = c.feed.new.self in
    let less : k < length seats = search rules in
    let found : seat_at seats k ≡ s = get_or_default seats k empty_seat s less ∙ sym c.index_mut-seat.ensures.value in
    let fed : SeatFed s c.args.item new (Intake.Taken n) = subst (SeatFed s c.args.item new) c.in-Taken.is c.in_ok-error.ensures.fed in
    let t : TookItem (seat_at seats k) (fed_part n c.args.item) new = subst (λ (x : Seated). TookItem x (fed_part n c.args.item) new) (sym found) fed.1 in
    let rest : c.reserve.new.self.items ≡ messages = search rules in
    let none = none_from _ c.pending.result new.client.next c.pending.ensures (sym c.is_some-asks.ensures ∙ c.if-asks.false) in
    subst (FlowStands (slice_set seats k new)) (sym rest) (last_stands seats messages k c.self.invariant less new t.requests t.replies none t.ruled)

pub returns-in_ok-push-in-Taken-clause-gives : goal.returns-in_ok-push-in-Taken-clause-gives
returns-in_ok-push-in-Taken-clause-gives c = λ store.
    let seats = c.self.inside.seats.items in
    let messages = c.self.inside.messages.items in
    let k = c.args.client in
    let n = c.in-Taken.count in
    let item = c.args.item in
    let s = c.index_mut-seat.result.now in
    let new = c.feed.new.self in
    let less : k < length seats = search rules in
    let found : seat_at seats k ≡ s = get_or_default seats k empty_seat s less ∙ sym c.index_mut-seat.ensures.value in
    let fed : SeatFed s item new (Intake.Taken n) = subst (SeatFed s item new) c.in-Taken.is c.in_ok-error.ensures.fed in
    let t : TookItem (seat_at seats k) (fed_part n item) new = subst (λ (x : Seated). TookItem x (fed_part n item) new) (sym found) fed.1 in
    let next = asked_from _ c.pending.result new.client.next c.pending.ensures (sym c.is_some-asks.ensures ∙ c.if-asks.true) in
    let pushed : c.push.new.self.items ≡ messages ++ Message.Asked k (c.requests-request.result - 1) ∷ [] = search rules in
    let last : c.push.new.self.items ≡ messages ++ Message.Asked k (length new.requests - 1) ∷ [] = pushed ∙ ap (λ m. messages ++ Message.Asked k (m - 1) ∷ []) c.requests-request.ensures in
    let after : Flow = record { seats = slice_set seats k new; messages = messages ++ Message.Asked k (length new.requests - 1) ∷ [] } in
    let is = more_is seats messages k c.self.invariant less new t.requests t.replies next.0 next.1 store in
    let Is : Flow → List Message → Type 0 = λ g ms. Gives (world_of store g) k item c.taken-told.result (world_of store (record { seats = slice_set seats k new; messages = ms })) in
    subst (λ (g : Flow). Is g c.push.new.self.items) c.self.view_is
    (subst (Is (record { seats = seats; messages = messages })) (sym last) (fed_told seats messages k c.self.invariant less item n new t c.taken-told.result fed.0 fed.2 (c.taken-told.ensures fed.0) store (world_of store after) is))

pub returns-else-asks-clause-gives : goal.returns-else-asks-clause-gives
returns-else-asks-clause-gives c = λ store.
    let seats = c.self.inside.seats.items in
    let messages = c.self.inside.messages.items in
    let k = c.args.client in
    let n = c.in-Taken.count in
    let item = c.args.item in
    let s = c.index_mut-seat.result.now in
    let new = c.feed.new.self in
    let less : k < length seats = search rules in
    let found : seat_at seats k ≡ s = get_or_default seats k empty_seat s less ∙ sym c.index_mut-seat.ensures.value in
    let fed : SeatFed s item new (Intake.Taken n) = subst (SeatFed s item new) c.in-Taken.is c.in_ok-error.ensures.fed in
    let t : TookItem (seat_at seats k) (fed_part n item) new = subst (λ (x : Seated). TookItem x (fed_part n item) new) (sym found) fed.1 in
    let none = none_from _ c.pending.result new.client.next c.pending.ensures (sym c.is_some-asks.ensures ∙ c.if-asks.false) in
    let rest : c.reserve.new.self.items ≡ messages = search rules in
    let after : Flow = record { seats = slice_set seats k new; messages = messages } in
    let is = last_is seats messages k c.self.invariant less new t.requests t.replies none store in
    let Is : Flow → List Message → Type 0 = λ g ms. Gives (world_of store g) k item c.taken-told.result (world_of store (record { seats = slice_set seats k new; messages = ms })) in
    subst (λ (g : Flow). Is g c.reserve.new.self.items) c.self.view_is
    (subst (Is (record { seats = seats; messages = messages })) (sym rest) (fed_told seats messages k c.self.invariant less item n new t c.taken-told.result fed.0 fed.2 (c.taken-told.ensures fed.0) store (world_of store after) is))
