use Rattle.std.proofs.Common.{◌≡◌, ◌≢◌, ◌++◌, ◌∷◌, [], None, Ok, Err, length-append, refl, sym, arith, ◌∙◌}
use Rattle.std.proofs.lemmas.Result.{err_from_is_err_and}
use Rattle.repo_session.specs.Sessions.{ended_in}
use Rattle.repo_backup.specs.ItemRuns.{StepGives, ItemGives, ItemsGive, items_error}
use Rattle.repo_backup.specs.declared.item_steps.ItemsError.{ItemsError}
use Rattle.repo_backup.proofs.ItemRunning.{SoFar, goes_as, goes_then, items_left, items_next, none_left, none_read, so_far_none, so_far_failed, so_far_ended, so_far_all, so_far_err, so_far_next, so_far_many}
use Rattle.repo_backup.proofs.item_steps.lockstep_items.Goals as goal

pub returns-in_err-asked-clause-goes : goal.returns-in_err-asked-clause-goes
returns-in_err-asked-clause-goes g c honest =
    let p = err_from_is_err_and c.from_residual.result c.from_residual.ensures.1 in
    let e = c.in_err-asked.field-0.0 in
    let items = c.args.items.now in
    let ended = ended_in c.answered.new.backup.session in
    rw (p.1, p.2) (goes_as (StepGives (Err e)) (ItemsGive items (Err (items_error e)) ended) c.args.backup.now c.answered.new.backup
    (g.S.Shelf.store c.args.shelf.now) (g.S.Shelf.failed c.args.shelf.now) (g.S.Shelf.store c.answered.new.shelf) (g.S.Shelf.failed c.answered.new.shelf)
    (λ es now fits h. so_far_failed items e ended es now h) (c.in_err-asked.ensures.goes honest))

pub loop-item-init : goal.loop-item-init
loop-item-init g c = record {
  goes = (
    [],
    c.args.items.now,
    refl,
    refl,
    λ honest. goes_as (StepGives (Ok c.in_ok-asked.asked)) (SoFar [] c.args.items.now c.in_ok-asked.asked (ended_in c.answered.new.backup.session)) c.args.backup.now c.answered.new.backup
        (g.S.Shelf.store c.args.shelf.now) (g.S.Shelf.failed c.args.shelf.now) (g.S.Shelf.store c.answered.new.shelf) (g.S.Shelf.failed c.answered.new.shelf)
        (λ es now fits h. so_far_none c.args.items.now c.in_ok-asked.asked (ended_in c.answered.new.backup.session) es now h) (c.in_ok-asked.ensures.goes honest),
  );
  settled = c.in_ok-asked.ensures.settled;
  few = c.in_ok-asked.ensures.few;
  honest = c.answered.ensures.honest;
  who = c.answered.ensures.who;
}

pub returns-then-not-wants-clause-goes : goal.returns-then-not-wants-clause-goes
returns-then-not-wants-clause-goes g c honest =
    let i = c.loop-item.invariant.goes in
    let ended = ended_in c.loop-item.backup.session in
    let none = c.loop-item.invariant.settled honest in
    let over : ended ≢ None = λ still. (let h = c.wants.ensures.1 (none, still) in absurd (cc)) in
    goes_as (SoFar i.0 c.args.items.now c.loop-item.asked ended) (ItemsGive c.args.items.now (Ok c.loop-item.asked) ended) c.args.backup.now c.loop-item.backup
    (g.S.Shelf.store c.args.shelf.now) (g.S.Shelf.failed c.args.shelf.now) (g.S.Shelf.store c.loop-item.shelf) (g.S.Shelf.failed c.loop-item.shelf)
    (λ es now fits h. so_far_ended i.0 i.1 c.args.items.now c.loop-item.asked ended es now i.2 over h) (i.4 honest)

pub returns-in_err-more-clause-goes : goal.returns-in_err-more-clause-goes
returns-in_err-more-clause-goes g c honest =
    let p = err_from_is_err_and c.from_residual-in_err-more.result c.from_residual-in_err-more.ensures.1 in
    let e = c.in_err-more.field-0.0 in
    let i = c.loop-item.invariant.goes in
    let place = c.loop-item.place in
    let items = c.args.items.now in
    let item = c.in-Some.item.now in
    let left = items_left i.0 i.1 items place item i.2 i.3 c.in-Some.ensures.lookup.3.0 c.in-Some.ensures.lookup.1 in
    let before = ended_in c.loop-item.backup.session in
    let wants : before ≡ None = (c.wants.ensures.0 c.if-not-wants.false).1 in
    let new = c.feed_item.new.backup in
    rw (p.1, p.2) (goes_then (SoFar i.0 items c.loop-item.asked before) (ItemGives place item (Err e) (ended_in new.session)) (ItemsGive items (Err e) (ended_in new.session)) c.args.backup.now c.loop-item.backup new
    (g.S.Shelf.store c.args.shelf.now) (g.S.Shelf.failed c.args.shelf.now) (g.S.Shelf.store c.loop-item.shelf) (g.S.Shelf.failed c.loop-item.shelf) (g.S.Shelf.store c.feed_item.new.shelf) (g.S.Shelf.failed c.feed_item.new.shelf)
    (λ es mid now s h. so_far_err i.0 items left.0 item left.1 before wants c.loop-item.asked place e (ended_in new.session) es mid now (sym i.3) s h)
    (i.4 honest) (c.loop-item.invariant.settled honest) (c.in_err-more.ensures.goes (c.loop-item.invariant.honest honest)))

pub returns-in_err-asked-2-clause-goes : goal.returns-in_err-asked-2-clause-goes
returns-in_err-asked-2-clause-goes g c honest =
    let p = err_from_is_err_and c.from_residual-in_err-asked-2.result c.from_residual-in_err-asked-2.ensures.1 in
    let i = c.loop-item.invariant.goes in
    let place = c.loop-item.place in
    let items = c.args.items.now in
    let item = c.in-Some.item.now in
    let left = items_left i.0 i.1 items place item i.2 i.3 c.in-Some.ensures.lookup.3.0 c.in-Some.ensures.lookup.1 in
    let before = ended_in c.loop-item.backup.session in
    let wants : before ≡ None = (c.wants.ensures.0 c.if-not-wants.false).1 in
    let new = c.feed_item.new.backup in
    let n = c.in_ok-more.more in
    rw (p.1, p.2, c.in_err-asked-2.ensures.err.0) (goes_then (SoFar i.0 items c.loop-item.asked before) (ItemGives place item (Ok n) (ended_in new.session)) (ItemsGive items (Err ItemsError.Limit) (ended_in new.session))
    c.args.backup.now c.loop-item.backup new
    (g.S.Shelf.store c.args.shelf.now) (g.S.Shelf.failed c.args.shelf.now) (g.S.Shelf.store c.loop-item.shelf) (g.S.Shelf.failed c.loop-item.shelf) (g.S.Shelf.store c.feed_item.new.shelf) (g.S.Shelf.failed c.feed_item.new.shelf)
    (λ es mid now s h. so_far_many i.0 items left.0 item left.1 before wants c.loop-item.asked place n (ended_in new.session) es mid now c.in_err-asked-2.ensures.err.1 s h)
    (i.4 honest) (c.loop-item.invariant.settled honest) (c.in_ok-more.ensures.goes (c.loop-item.invariant.honest honest)))

pub loop-item-preserved : goal.loop-item-preserved
loop-item-preserved g c =
    let i = c.loop-item.invariant.goes in
    let place = c.loop-item.place in
    let items = c.args.items.now in
    let item = c.in-Some.item.now in
    let left = items_left i.0 i.1 items place item i.2 i.3 c.in-Some.ensures.lookup.3.0 c.in-Some.ensures.lookup.1 in
    let before = ended_in c.loop-item.backup.session in
    let wants : before ≡ None = (c.wants.ensures.0 c.if-not-wants.false).1 in
    let new = c.feed_item.new.backup in
    let n = c.in_ok-more.more in
    record {
      goes = (
        i.0 ++ item ∷ [],
        left.0,
        items_next i.0 left.0 items item left.1,
        omega (arith, i.3, length-append i.0 (item ∷ [])),
        λ honest. goes_then (SoFar i.0 items c.loop-item.asked before) (ItemGives place item (Ok n) (ended_in new.session)) (SoFar (i.0 ++ item ∷ []) items c.in_ok-asked-2.asked (ended_in new.session)) c.args.backup.now c.loop-item.backup new
            (g.S.Shelf.store c.args.shelf.now) (g.S.Shelf.failed c.args.shelf.now) (g.S.Shelf.store c.loop-item.shelf) (g.S.Shelf.failed c.loop-item.shelf) (g.S.Shelf.store c.feed_item.new.shelf) (g.S.Shelf.failed c.feed_item.new.shelf)
            (λ es mid now s h. so_far_next i.0 items left.0 item left.1 before wants c.loop-item.asked place n c.in_ok-asked-2.asked (ended_in new.session) es mid now c.in_ok-asked-2.ensures.ok.0 s h)
            (i.4 honest) (c.loop-item.invariant.settled honest) (c.in_ok-more.ensures.goes (c.loop-item.invariant.honest honest)),
      );
      settled = λ honest. c.in_ok-more.ensures.settled (c.loop-item.invariant.honest honest);
      few = c.in_ok-asked-2.ensures.ok.1;
      honest = λ honest. c.feed_item.ensures.honest (c.loop-item.invariant.honest honest);
      who = c.feed_item.ensures.who ∙ c.loop-item.invariant.who;
    }

pub returns-clause-goes : goal.returns-clause-goes
returns-clause-goes g c honest =
    let i = c.loop-item.invariant.goes in
    let ended = ended_in c.loop-item.backup.session in
    let items = c.args.items.now in
    goes_as (SoFar i.0 items c.loop-item.asked ended) (ItemsGive items (Ok c.loop-item.asked) ended) c.args.backup.now c.loop-item.backup
    (g.S.Shelf.store c.args.shelf.now) (g.S.Shelf.failed c.args.shelf.now) (g.S.Shelf.store c.loop-item.shelf) (g.S.Shelf.failed c.loop-item.shelf)
    (λ es now fits h. so_far_all i.0 i.1 items c.loop-item.asked ended es now i.2 (none_left i.0 i.1 items c.loop-item.place i.2 i.3 (none_read _ _ c.get.result c.get.ensures.lookup.3 c.in_default.not-Some)) h) (i.4 honest)
