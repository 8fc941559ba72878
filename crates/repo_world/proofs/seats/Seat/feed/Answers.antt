use Rattle.std.proofs.Common.{rules, ◌≡◌, ◌≢◌, ◌∙◌, ◌++◌, ◌∷◌, [], Bool, false, List, sym, ap, subst}
use Rattle.repo_backup.specs.Items.{fed_part}
use Rattle.repo_backup.specs.declared.items.FeedError.{FeedError}
use Rattle.repo_world.specs.Clients.{MayBeFed}
use Rattle.repo_world.specs.inner.Seating.{SeatFed}
use Rattle.repo_world.specs.Seats.{IsSeated, Seated, exchanges_of, kept_item, part_of, seated}
use Rattle.repo_world.specs.declared.fed_items.FedItem.{FedItem}
use Rattle.repo_world.specs.declared.seats.Intake.{Intake}
use Rattle.repo_world.proofs.Intaking.{part_is, refuses}
use Rattle.repo_world.proofs.SeatParts.{fed_item, fed_seated, same_seat, still_seated}
use Rattle.repo_world.proofs.seats.Seat.feed.Goals as goal

pub invariant_of-self-in-Ok : goal.invariant_of-self-in-Ok
invariant_of-self-in-Ok c =
    let seat = c.self.inside in
    let new = c.feed.new.self in
    let n = c.in-Ok.count in
    let e = c.in-Ok.ensures in
    let item = fed_part n c.args.item in
    let fed = subst (λ (s : Seated). MayBeFed s.client) (sym c.self.view_is) c.requires in
    let kept : kept_item c.part.result ≡ item = c.part.ensures ∙ ap (part_of n) c.in_ok-kept.ensures ∙ part_is n c.args.item in
    let pushed : c.push.new.self.items ≡ seat.fed.items ++ c.part.result ∷ [] = search rules in
    subst (λ (l : List FedItem). IsSeated new seat.pasts.items l seat.replies.items) (sym pushed)
    (fed_seated seat.client new seat.pasts.items seat.fed.items c.part.result item seat.replies.items c.self.invariant kept fed.1 e.took.0.0 e.took.0.1 e.took.2 e.may e.given e.emitted)

pub returns-in-Ok-clause-fed : goal.returns-in-Ok-clause-fed
returns-in-Ok-clause-fed c =
    let seat = c.self.inside in
    let new = c.feed.new.self in
    let n = c.in-Ok.count in
    let e = c.in-Ok.ensures in
    let item = fed_part n c.args.item in
    let fed = subst (λ (s : Seated). MayBeFed s.client) (sym c.self.view_is) c.requires in
    let kept : kept_item c.part.result ≡ item = c.part.ensures ∙ ap (part_of n) c.in_ok-kept.ensures ∙ part_is n c.args.item in
    let pushed : c.push.new.self.items ≡ seat.fed.items ++ c.part.result ∷ [] = search rules in
    let took = fed_item seat.client new seat.pasts.items seat.fed.items c.part.result item seat.replies.items c.self.invariant kept fed.1 e.took.0.0 e.took.0.1 e.took.2 e.may e.given e.emitted in
    let busy = e.part (exchanges_of seat.client seat.pasts.items seat.fed.items seat.replies.items) c.self.invariant.fits in
    let Took : Bool → List FedItem → Type 0 = λ b l. SeatFed (seated seat.client seat.pasts.items seat.fed.items seat.replies.items b) c.args.item (seated new seat.pasts.items l seat.replies.items b) (Intake.Taken n) in
    subst (λ (o : Seated). SeatFed o c.args.item (seated new seat.pasts.items c.push.new.self.items seat.replies.items seat.crashed) (Intake.Taken n)) c.self.view_is
    (subst (λ b. Took b c.push.new.self.items) (sym fed.0) (subst (Took false) (sym pushed) (e.took.1, took, busy)))

pub invariant_of-self-in-Err-Memory : goal.invariant_of-self-in-Err-Memory
invariant_of-self-in-Err-Memory c =
    let seat = c.self.inside in
    let e = c.in-Err-Memory.ensures in
    let same : c.reserve.new.self.items ≡ seat.fed.items = search rules in
    subst (λ (l : List FedItem). IsSeated c.feed.new.self seat.pasts.items l seat.replies.items) (sym same)
    (still_seated seat.client c.feed.new.self seat.pasts.items seat.fed.items seat.replies.items c.self.invariant e.stays e.next.0 e.next.1 e.given e.emitted)

pub invariant_of-self-in-Err : goal.invariant_of-self-in-Err
invariant_of-self-in-Err c =
    let seat = c.self.inside in
    let e = c.in-Err.ensures in
    let same : c.reserve.new.self.items ≡ seat.fed.items = search rules in
    subst (λ (l : List FedItem). IsSeated c.feed.new.self seat.pasts.items l seat.replies.items) (sym same)
    (still_seated seat.client c.feed.new.self seat.pasts.items seat.fed.items seat.replies.items c.self.invariant e.stays e.next.0 e.next.1 e.given e.emitted)

pub returns-in-Err-Memory-clause-err : goal.returns-in-Err-Memory-clause-err
returns-in-Err-Memory-clause-err c =
    let seat = c.self.inside in
    let e = c.in-Err-Memory.ensures in
    let same : c.reserve.new.self.items ≡ seat.fed.items = search rules in
    subst (λ (o : Seated). seated c.feed.new.self seat.pasts.items c.reserve.new.self.items seat.replies.items seat.crashed ≡ o) c.self.view_is
    (ap (λ l. seated c.feed.new.self seat.pasts.items l seat.replies.items seat.crashed) same
    ∙ same_seat seat.client c.feed.new.self seat.pasts.items seat.fed.items seat.replies.items c.self.invariant e.stays e.next.0 e.next.1 e.given e.emitted seat.crashed)

pub returns : goal.returns
returns c =
    let seat = c.self.inside in
    let e = c.in-Err.ensures in
    let fed = subst (λ (s : Seated). MayBeFed s.client) (sym c.self.view_is) c.requires in
    let same : c.reserve.new.self.items ≡ seat.fed.items = search rules in
    let old : Seated = seated seat.client seat.pasts.items seat.fed.items seat.replies.items seat.crashed in
    let other : c.in-Err.error ≢ FeedError.Memory = search rules in
    let refused = refuses old.client c.args.item c.in-Err.error other e.unwanted (λ waits. e.fault fed.1 waits (exchanges_of seat.client seat.pasts.items seat.fed.items seat.replies.items) c.self.invariant.fits) in
    let Fed : Seated → Type 0 = λ o. SeatFed o c.args.item (seated c.feed.new.self seat.pasts.items c.reserve.new.self.items seat.replies.items seat.crashed) (Intake.Unfed c.in-Err.error) in
    record {
      fed = subst Fed c.self.view_is (
        refused,
        ap (λ l. seated c.feed.new.self seat.pasts.items l seat.replies.items seat.crashed) same
            ∙ same_seat seat.client c.feed.new.self seat.pasts.items seat.fed.items seat.replies.items c.self.invariant e.stays e.next.0 e.next.1 e.given e.emitted seat.crashed,
      );
      err = tt;
    }
