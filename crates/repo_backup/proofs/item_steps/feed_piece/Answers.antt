use Rattle.std.proofs.Common.{◌≢◌, ◌+◌, None, Ok, Err, refl, arith, ◌∙◌}
use Rattle.std.proofs.lemmas.Result.{err_from_is_err_and}
use Rattle.repo_session.specs.Sessions.{ended_in}
use Rattle.repo_backup.specs.ItemRuns.{OnceGives, ItemGives}
use Rattle.repo_backup.specs.declared.item_steps.ItemsError.{ItemsError}
use Rattle.repo_backup.specs.declared.items.Item.{Item}
use Rattle.repo_backup.proofs.ItemRunning.{PartsGive, goes_as, goes_then, parts_begin, parts_first, parts_ok, parts_err, parts_many, parts_ended}
use Rattle.repo_backup.proofs.item_steps.feed_piece.Goals as goal

pub returns-in_err-done-clause-goes : goal.returns-in_err-done-clause-goes
returns-in_err-done-clause-goes g c honest =
    let p = err_from_is_err_and c.from_residual.result c.from_residual.ensures.1 in
    let e = c.in_err-done.field-0.0 in
    let new = c.feed_once.new.backup in
    rw (p.1, p.2) (goes_as (OnceGives c.args.place 0 (Item.Bytes c.args.piece) (Err e)) (ItemGives c.args.place (Item.Bytes c.args.piece) (Err e) (ended_in new.session)) c.args.backup.now new
    (g.S.Shelf.store c.args.shelf.now) (g.S.Shelf.failed c.args.shelf.now) (g.S.Shelf.store c.feed_once.new.shelf) (g.S.Shelf.failed c.feed_once.new.shelf)
    (λ es now fits h. parts_err c.args.place 0 0 c.args.piece c.args.piece (omega arith) refl e (ended_in new.session) es es now (parts_begin c.args.piece.now es) h) (c.in_err-done.ensures.goes honest))

pub loop-done-init : goal.loop-done-init
loop-done-init g c = record {
  goes = λ honest. goes_as (OnceGives c.args.place 0 (Item.Bytes c.args.piece) (Ok (c.in_ok-done.done, c.in_ok-done.asked))) (PartsGive c.in_ok-done.done c.in_ok-done.asked c.args.piece.now) c.args.backup.now c.feed_once.new.backup
      (g.S.Shelf.store c.args.shelf.now) (g.S.Shelf.failed c.args.shelf.now) (g.S.Shelf.store c.feed_once.new.shelf) (g.S.Shelf.failed c.feed_once.new.shelf)
      (λ es now fits h. parts_first c.args.place 0 c.in_ok-done.done c.in_ok-done.asked c.args.piece es now h) (c.in_ok-done.ensures.goes honest);
  settled = λ honest. c.in_ok-done.ensures.settled honest;
  within = c.in_ok-done.ensures.few.0.0;
  few = c.in_ok-done.ensures.few.1;
  honest = c.feed_once.ensures.honest;
  who = c.feed_once.ensures.who;
}

pub returns-in_err-count-clause-goes : goal.returns-in_err-count-clause-goes
returns-in_err-count-clause-goes g c honest =
    let p = err_from_is_err_and c.from_residual-in_err-count.result c.from_residual-in_err-count.ensures.1 in
    let e = c.in_err-count.field-0.0 in
    let rest = c.split_at.result.1 in
    let new = c.feed_once-in-loop-done.new.backup in
    rw (p.1, p.2) (goes_then (PartsGive c.loop-done.done c.loop-done.asked c.args.piece.now) (OnceGives c.args.place c.loop-done.done (Item.Bytes rest) (Err e)) (ItemGives c.args.place (Item.Bytes c.args.piece) (Err e) (ended_in new.session))
    c.args.backup.now c.loop-done.backup new
    (g.S.Shelf.store c.args.shelf.now) (g.S.Shelf.failed c.args.shelf.now) (g.S.Shelf.store c.loop-done.shelf) (g.S.Shelf.failed c.loop-done.shelf) (g.S.Shelf.store c.feed_once-in-loop-done.new.shelf) (g.S.Shelf.failed c.feed_once-in-loop-done.new.shelf)
    (λ es mid now p h. parts_err c.args.place c.loop-done.done c.loop-done.asked c.args.piece rest c.loop-done.invariant.within c.split_at.ensures.back e (ended_in new.session) es mid now p h)
    (c.loop-done.invariant.goes honest) (c.loop-done.invariant.settled honest) (c.in_err-count.ensures.goes (c.loop-done.invariant.honest honest)))

pub returns-in_err-asked-clause-goes : goal.returns-in_err-asked-clause-goes
returns-in_err-asked-clause-goes g c honest =
    let p = err_from_is_err_and c.from_residual-in_err-asked.result c.from_residual-in_err-asked.ensures.1 in
    let limit = c.in_err-asked.ensures.err.0 in
    let many = c.in_err-asked.ensures.err.1 in
    let rest = c.split_at.result.1 in
    let new = c.feed_once-in-loop-done.new.backup in
    rw (p.1, p.2, limit) (goes_then (PartsGive c.loop-done.done c.loop-done.asked c.args.piece.now) (OnceGives c.args.place c.loop-done.done (Item.Bytes rest) (Ok (c.in_ok-count.count, c.in_ok-count.more)))
    (ItemGives c.args.place (Item.Bytes c.args.piece) (Err ItemsError.Limit) (ended_in new.session)) c.args.backup.now c.loop-done.backup new
    (g.S.Shelf.store c.args.shelf.now) (g.S.Shelf.failed c.args.shelf.now) (g.S.Shelf.store c.loop-done.shelf) (g.S.Shelf.failed c.loop-done.shelf) (g.S.Shelf.store c.feed_once-in-loop-done.new.shelf) (g.S.Shelf.failed c.feed_once-in-loop-done.new.shelf)
    (λ es mid now p h. parts_many c.args.place (c.loop-done.done + c.in_ok-count.count) (c.loop-done.asked + c.in_ok-count.more) c.args.piece (ended_in new.session) es now many
    (parts_ok c.args.place c.loop-done.done c.loop-done.done c.in_ok-count.count c.loop-done.asked c.in_ok-count.more (c.loop-done.asked + c.in_ok-count.more) c.args.piece.now rest c.split_at.ensures.back refl es mid now p h))
    (c.loop-done.invariant.goes honest) (c.loop-done.invariant.settled honest) (c.in_ok-count.ensures.goes (c.loop-done.invariant.honest honest)))

pub loop-done-preserved : goal.loop-done-preserved
loop-done-preserved g c = record {
  goes = λ honest. (
      let rest = c.split_at.result.1 in
      goes_then (PartsGive c.loop-done.done c.loop-done.asked c.args.piece.now) (OnceGives c.args.place c.loop-done.done (Item.Bytes rest) (Ok (c.in_ok-count.count, c.in_ok-count.more)))
      (PartsGive (c.loop-done.done + c.in_ok-count.count) c.in_ok-asked.asked c.args.piece.now) c.args.backup.now c.loop-done.backup c.feed_once-in-loop-done.new.backup
      (g.S.Shelf.store c.args.shelf.now) (g.S.Shelf.failed c.args.shelf.now) (g.S.Shelf.store c.loop-done.shelf) (g.S.Shelf.failed c.loop-done.shelf) (g.S.Shelf.store c.feed_once-in-loop-done.new.shelf) (g.S.Shelf.failed c.feed_once-in-loop-done.new.shelf)
      (λ es mid now p h. parts_ok c.args.place c.loop-done.done c.loop-done.done c.in_ok-count.count c.loop-done.asked c.in_ok-count.more c.in_ok-asked.asked c.args.piece.now rest c.split_at.ensures.back c.in_ok-asked.ensures.ok.0 es mid now p h)
      (c.loop-done.invariant.goes honest) (c.loop-done.invariant.settled honest) (c.in_ok-count.ensures.goes (c.loop-done.invariant.honest honest)));
  settled = λ honest. c.in_ok-count.ensures.settled (c.loop-done.invariant.honest honest);
  within = omega (arith, c.in_ok-count.ensures.few.0.0, c.split_at.ensures.back_len, c.loop-done.invariant.within);
  few = c.in_ok-asked.ensures.ok.1;
  honest = λ honest. c.feed_once-in-loop-done.ensures.honest (c.loop-done.invariant.honest honest);
  who = c.feed_once-in-loop-done.ensures.who ∙ c.loop-done.invariant.who;
}

pub returns-else-wants-clause-goes : goal.returns-else-wants-clause-goes
returns-else-wants-clause-goes g c honest =
    let none = c.loop-done.invariant.settled honest in
    let over : ended_in c.loop-done.backup.session ≢ None = λ still. (let h = c.wants.ensures.1 (none, still) in absurd (cc)) in
    goes_as (PartsGive c.loop-done.done c.loop-done.asked c.args.piece.now) (ItemGives c.args.place (Item.Bytes c.args.piece) (Ok c.loop-done.asked) (ended_in c.loop-done.backup.session)) c.args.backup.now c.loop-done.backup
    (g.S.Shelf.store c.args.shelf.now) (g.S.Shelf.failed c.args.shelf.now) (g.S.Shelf.store c.loop-done.shelf) (g.S.Shelf.failed c.loop-done.shelf)
    (λ es now fits p. parts_ended c.args.place c.loop-done.done c.loop-done.asked c.args.piece (ended_in c.loop-done.backup.session) es now over p) (c.loop-done.invariant.goes honest)
