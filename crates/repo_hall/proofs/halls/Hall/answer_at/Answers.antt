use Rattle.std.proofs.Common.{◌≡◌, slice_set, subst, ap, ◌∙◌}
use Rattle.repo_hall.specs.declared.guests.Guest.{Guest}
use Rattle.repo_hall.specs.Guests.{AnswerCause}
use Rattle.repo_hall.proofs.Hosting.{get_there, get_own, set_same, if_ok_then, hall_answers, goes_ran, set_number, set_others}
use Rattle.repo_hall.proofs.halls.Hall.answer_at.Goals as goal

pub returns-clause-stands : goal.returns-clause-stands
returns-clause-stands g c honest =
    let guests = c.args.self.now.guests.items in
    let old = c.index_mut.result.now in
    let at = get_there guests c.args.place old c.requires c.index_mut.ensures.value in
    hall_answers guests c.args.self.now.entered c.args.place c.answer_next.result old c.answer_next.new.self (g.S.Shelf.store c.args.shelf.now) (g.S.Shelf.failed c.args.shelf.now)
    (g.S.Shelf.store c.answer_next.new.shelf) (g.S.Shelf.failed c.answer_next.new.shelf) at (c.answer_next.ensures.goes honest)

pub returns-clause-runs : goal.returns-clause-runs
returns-clause-runs g c honest =
    goes_ran c.answer_next.result c.index_mut.result.now c.answer_next.new.self (g.S.Shelf.store c.args.shelf.now) (g.S.Shelf.failed c.args.shelf.now)
    (g.S.Shelf.store c.answer_next.new.shelf) (g.S.Shelf.failed c.answer_next.new.shelf) (c.answer_next.ensures.goes honest)

pub returns-clause-cause : goal.returns-clause-cause
returns-clause-cause g c h found =
    let guests = c.args.self.now.guests.items in
    let old = c.index_mut.result.now in
    let at = get_there guests c.args.place old c.requires c.index_mut.ensures.value in
    let same : old ≡ h = cc (at, found) in
    let P : Guest → Type 0 = λ x. AnswerCause x c.answer_next.result in
    subst P same c.answer_next.ensures.cause

-- a guest that is as it was
pub returns-clause-still : goal.returns-clause-still
returns-clause-still g c =
    let guests = c.args.self.now.guests.items in
    let old = c.index_mut.result.now in
    let at = get_there guests c.args.place old c.requires c.index_mut.ensures.value in
    if_ok_then c.answer_next.result _ _ c.answer_next.ensures.still (λ some still none.
    let same = still none in
    (ap (λ x. slice_set guests c.args.place x) same.0 ∙ set_same guests c.args.place old at, same.1))

pub returns-clause-over : goal.returns-clause-over
returns-clause-over g c err h found =
    let guests = c.args.self.now.guests.items in
    ap (λ (x : Guest). x.ended) (get_own guests c.args.place c.answer_next.new.self h found) ∙ c.answer_next.ensures.over err

pub returns-clause-guests : goal.returns-clause-guests
returns-clause-guests g c =
    let guests = c.args.self.now.guests.items in
    let old = c.index_mut.result.now in
    let at = get_there guests c.args.place old c.requires c.index_mut.ensures.value in (
      set_others guests c.args.place c.answer_next.new.self,
      set_number guests c.args.place old c.answer_next.new.self at c.answer_next.ensures.number,
    )
