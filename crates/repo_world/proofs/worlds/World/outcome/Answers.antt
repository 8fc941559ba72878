use Rattle.std.proofs.Common.{◌≡◌, ◌∙◌, None, Some, slice_get, sym, ap, subst}
use Rattle.repo_world.specs.Clients.{Client}
use Rattle.repo_world.specs.Seats.{empty_seat}
use Rattle.repo_world.specs.Stages.{Stage}
use Rattle.repo_world.proofs.Standing.{client_is, no_seat, seat_is}
use Rattle.repo_world.proofs.worlds.World.outcome.Goals as goal

pub returns-in_err-seat : goal.returns-in_err-seat
returns-in_err-seat g c =
    let seats = c.args.self.now.flow.seats in
    let none = no_seat seats c.args.client (subst (λ (stage : Stage g.row.S.Denot). slice_get stage.flow.seats c.args.client ≡ None) c.self.view_is (sym c.in_err-seat.ensures.seat)) in
    rw c.from_residual.ensures (sym (ap (λ (x : Client). x.outcome) (client_is seats c.args.client empty_seat none)))

pub returns : goal.returns
returns g c =
    let seats = c.args.self.now.flow.seats in
    let seat = c.in_ok-seat.field-0.now in
    let there = seat_is seats c.args.client seat (subst (λ (stage : Stage g.row.S.Denot). slice_get stage.flow.seats c.args.client ≡ Some seat) c.self.view_is (sym c.in_ok-seat.ensures.seat)) in
    c.outcome.ensures ∙ ap (λ (x : Client). x.outcome) (sym (client_is seats c.args.client seat there))
