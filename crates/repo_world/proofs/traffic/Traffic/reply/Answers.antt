use Rattle.std.proofs.Common.{◌∙◌, slice_get, sym, ap}
use Rattle.repo_world.specs.Seats.{Seated}
use Rattle.repo_world.proofs.Flowing.{said_named}
use Rattle.repo_world.proofs.Standing.{no_seat, seat_is}
use Rattle.repo_world.proofs.traffic.Traffic.reply.Goals as goal

pub returns-in_err-seat-clause-reply : goal.returns-in_err-seat-clause-reply
returns-in_err-seat-clause-reply c =
    let none = no_seat c.args.self.now.seats c.args.client (sym c.in_err-seat.ensures.seat) in
    rw c.from_residual.ensures (sym (ap (λ (x : Seated). slice_get x.replies c.args.place) none))

pub returns-in_err-seat-clause-named : goal.returns-in_err-seat-clause-named
returns-in_err-seat-clause-named c =
    let none = no_seat c.args.self.now.seats c.args.client (sym c.in_err-seat.ensures.seat) in
    said_named (λ x. x.now) c.args.self.now.seats c.args.self.now.messages c.in_err-seat.ensures.stands c.args.client c.args.place _ (rw c.from_residual.ensures (sym (ap (λ (x : Seated). slice_get x.replies c.args.place) none)))

pub returns-clause-reply : goal.returns-clause-reply
returns-clause-reply c =
    let there = seat_is c.args.self.now.seats c.args.client c.in_ok-seat.field-0.now (sym c.in_ok-seat.ensures.seat) in
    c.reply.ensures ∙ ap (λ (x : Seated). slice_get x.replies c.args.place) (sym there)

pub returns-clause-named : goal.returns-clause-named
returns-clause-named c =
    let there = seat_is c.args.self.now.seats c.args.client c.in_ok-seat.field-0.now (sym c.in_ok-seat.ensures.seat) in
    said_named (λ x. x.now) c.args.self.now.seats c.args.self.now.messages c.in_ok-seat.ensures.stands c.args.client c.args.place _ (c.reply.ensures ∙ ap (λ (x : Seated). slice_get x.replies c.args.place) (sym there))
