use Rattle.std.proofs.Common.{rules, ◌≡◌, ◌∙◌, true, false, cond, None, Some, slice_get, sym, ap, subst}
use Rattle.repo_world.specs.Seats.{empty_seat}
use Rattle.repo_world.specs.Stages.{Stage}
use Rattle.repo_world.specs.World.{awaited}
use Rattle.repo_world.proofs.Standing.{client_is, no_seat, seat_is}
use Rattle.repo_world.proofs.worlds.World.pending.Goals as goal

pub returns-in_err-seat : goal.returns-in_err-seat
returns-in_err-seat g c =
    let seats = c.args.self.now.flow.seats in
    let none = no_seat seats c.args.client (subst (λ (stage : Stage g.row.S.Denot). slice_get stage.flow.seats c.args.client ≡ None) c.self.view_is (sym c.in_err-seat.ensures.seat)) in
    rw c.from_residual.ensures (sym (ap awaited (client_is seats c.args.client empty_seat none)))

pub returns-then-is_crashed : goal.returns-then-is_crashed
returns-then-is_crashed g c =
    let seats = c.args.self.now.flow.seats in
    let seat = c.in_ok-seat.seat.now in
    let there = seat_is seats c.args.client seat (subst (λ (stage : Stage g.row.S.Denot). slice_get stage.flow.seats c.args.client ≡ Some seat) c.self.view_is (sym c.in_ok-seat.ensures.seat)) in
    let crashed : seat.client.crashed ≡ true = search rules in
    sym (ap awaited (client_is seats c.args.client seat there) ∙ ap (λ b. cond b None seat.client.next) crashed)

pub returns : goal.returns
returns g c =
    let seats = c.args.self.now.flow.seats in
    let seat = c.in_ok-seat.seat.now in
    let there = seat_is seats c.args.client seat (subst (λ (stage : Stage g.row.S.Denot). slice_get stage.flow.seats c.args.client ≡ Some seat) c.self.view_is (sym c.in_ok-seat.ensures.seat)) in
    let up : seat.client.crashed ≡ false = search rules in
    c.pending.ensures ∙ sym (ap awaited (client_is seats c.args.client seat there) ∙ ap (λ b. cond b None seat.client.next) up)
