use Rattle.std.proofs.Common.{◌∙◌, slice_get, sym, ap}
use Rattle.repo_world.specs.Seats.{Seated}
use Rattle.repo_world.proofs.Flowing.{asked_named}
use Rattle.repo_world.proofs.Standing.{no_seat, seat_is}
use Rattle.repo_world.proofs.traffic.Traffic.request.Goals as goal

pub returns-in_err-seat-clause-request : goal.returns-in_err-seat-clause-request
returns-in_err-seat-clause-request c =
    let none = no_seat c.args.self.now.seats c.args.client (sym c.in_err-seat.ensures.seat) in
    rw c.from_residual.ensures (sym (ap (λ (x : Seated). slice_get x.requests c.args.place) none))

pub returns-in_err-seat-clause-named : goal.returns-in_err-seat-clause-named
returns-in_err-seat-clause-named c =
    let none = no_seat c.args.self.now.seats c.args.client (sym c.in_err-seat.ensures.seat) in
    asked_named (λ x. x.now) c.args.self.now.seats c.args.self.now.messages c.in_err-seat.ensures.stands c.args.client c.args.place _ (rw c.from_residual.ensures (sym (ap (λ (x : Seated). slice_get x.requests c.args.place) none)))

pub returns-clause-request : goal.returns-clause-request
returns-clause-request c =
    let there = seat_is c.args.self.now.seats c.args.client c.in_ok-seat.field-0.now (sym c.in_ok-seat.ensures.seat) in
    c.request.ensures.request ∙ ap (λ (x : Seated). slice_get x.requests c.args.place) (sym there)

pub returns-clause-named : goal.returns-clause-named
returns-clause-named c =
    let there = seat_is c.args.self.now.seats c.args.client c.in_ok-seat.field-0.now (sym c.in_ok-seat.ensures.seat) in
    asked_named (λ x. x.now) c.args.self.now.seats c.args.self.now.messages c.in_ok-seat.ensures.stands c.args.client c.args.place _ (c.request.ensures.request ∙ ap (λ (x : Seated). slice_get x.requests c.args.place) (sym there))
