use Rattle.std.proofs.Common.{rules, ◌≡◌, ◌∙◌, ◌<◌, inl, inr, true, false, length, slice_set, refl, sym, ap, subst}
use Rattle.std.proofs.lemmas.List.{get_or_default}
use Rattle.repo_world.specs.Events.{Stops}
use Rattle.repo_world.specs.Flows.{Flow, seat_at, world_of}
use Rattle.repo_world.specs.inner.Seating.{Crashed}
use Rattle.repo_world.specs.Seats.{Seated, empty_seat}
use Rattle.repo_world.specs.Clients.{Client}
use Rattle.repo_world.specs.declared.events.Applied.{Applied}
use Rattle.repo_world.proofs.FlowParts.{crashed_stands, crashes, kept_stands, same_world}
use Rattle.repo_world.proofs.Flowing.{client_there}
use Rattle.repo_world.proofs.traffic.Traffic.crash.Goals as goal

pub invariant_of-self : goal.invariant_of-self
invariant_of-self c =
    let seats = c.self.inside.seats.items in
    let messages = c.self.inside.messages.items in
    let k = c.args.client in
    let s = c.index_mut-seat.result.now in
    let less : k < length seats = search rules in
    let found : seat_at seats k ≡ s = get_or_default seats k empty_seat s less ∙ sym c.index_mut-seat.ensures.value in
    kept_stands seats messages k c.self.invariant less s (sym found)

pub returns-then-is_crashed : goal.returns-then-is_crashed
returns-then-is_crashed c = λ store.
    let seats = c.self.inside.seats.items in
    let messages = c.self.inside.messages.items in
    let k = c.args.client in
    let s = c.index_mut-seat.result.now in
    let less : k < length seats = search rules in
    let found : seat_at seats k ≡ s = get_or_default seats k empty_seat s less ∙ sym c.index_mut-seat.ensures.value in
    let crashed : (seat_at seats k).client.crashed ≡ true = ap (λ (x : Seated). x.client.crashed) found ∙ sym c.is_crashed.ensures ∙ c.if-is_crashed.true in
    subst (λ (f : Flow). Stops (world_of store f) k Applied.Ignored (world_of store (record { seats = slice_set seats k s; messages = messages }))) c.self.view_is
    (inr (refl, ap (λ (x : Client). x.crashed) (client_there seats k) ∙ crashed, same_world seats messages k c.self.invariant less s (sym found) store))

pub invariant_of-self-2 : goal.invariant_of-self-2
invariant_of-self-2 c =
    let seats = c.self.inside.seats.items in
    let messages = c.self.inside.messages.items in
    let k = c.args.client in
    let less : k < length seats = search rules in
    let found : seat_at seats k ≡ c.index_mut-seat.result.now = get_or_default seats k empty_seat c.index_mut-seat.result.now less ∙ sym c.index_mut-seat.ensures.value in
    let crashed : Crashed (seat_at seats k) c.crash.new.self = subst (λ (x : Seated). Crashed x c.crash.new.self) (sym found) c.crash.ensures in
    crashed_stands seats messages k c.self.invariant less c.crash.new.self crashed

pub returns : goal.returns
returns c = λ store.
    let seats = c.self.inside.seats.items in
    let messages = c.self.inside.messages.items in
    let k = c.args.client in
    let s = c.crash.new.self in
    let less : k < length seats = search rules in
    let found : seat_at seats k ≡ c.index_mut-seat.result.now = get_or_default seats k empty_seat c.index_mut-seat.result.now less ∙ sym c.index_mut-seat.ensures.value in
    let running : (seat_at seats k).client.crashed ≡ false = ap (λ (x : Seated). x.client.crashed) found ∙ sym c.is_crashed.ensures ∙ c.if-is_crashed.false in
    let crashed : Crashed (seat_at seats k) s = subst (λ (x : Seated). Crashed x s) (sym found) c.crash.ensures in
    subst (λ (f : Flow). Stops (world_of store f) k Applied.Done (world_of store (record { seats = slice_set seats k s; messages = messages }))) c.self.view_is
    (inl (refl, crashes seats messages k c.self.invariant less s crashed running store))
