use Rattle.std.proofs.Common.{Ok, Err}
use Rattle.std.proofs.lemmas.Result.{err_from_is_err_and}
use Rattle.repo_session.specs.Sessions.{ended_in}
use Rattle.repo_backup.specs.ItemRuns.{OnceGives, ItemGives}
use Rattle.repo_backup.proofs.ItemRunning.{goes_as, whole_ok, whole_err}
use Rattle.repo_backup.proofs.item_steps.feed_item.Goals as goal

pub returns-in_err-asked-clause-goes : goal.returns-in_err-asked-clause-goes
returns-in_err-asked-clause-goes g c honest =
    let p = err_from_is_err_and c.from_residual.result c.from_residual.ensures.1 in
    let e = c.in_err-asked.field-0.0 in
    let new = c.feed_once.new.backup in
    rw (p.1, p.2) (goes_as (OnceGives c.args.place 0 c.args.item.now (Err e)) (ItemGives c.args.place c.args.item.now (Err e) (ended_in new.session)) c.args.backup.now new
    (g.S.Shelf.store c.args.shelf.now) (g.S.Shelf.failed c.args.shelf.now) (g.S.Shelf.store c.feed_once.new.shelf) (g.S.Shelf.failed c.feed_once.new.shelf)
    (λ es now fits h. whole_err c.args.place c.args.item.now e (ended_in new.session) es now c.in_default.not-Bytes h) (c.in_err-asked.ensures.goes honest))

pub returns-clause-goes : goal.returns-clause-goes
returns-clause-goes g c honest =
    let new = c.feed_once.new.backup in
    goes_as (OnceGives c.args.place 0 c.args.item.now (Ok (c.in_ok-asked.field-0-0, c.in_ok-asked.asked))) (ItemGives c.args.place c.args.item.now (Ok c.in_ok-asked.asked) (ended_in new.session)) c.args.backup.now new
    (g.S.Shelf.store c.args.shelf.now) (g.S.Shelf.failed c.args.shelf.now) (g.S.Shelf.store c.feed_once.new.shelf) (g.S.Shelf.failed c.feed_once.new.shelf)
    (λ es now fits h. whole_ok c.args.place c.args.item.now c.in_ok-asked.field-0-0 c.in_ok-asked.asked (ended_in new.session) es now c.in_default.not-Bytes h) (c.in_ok-asked.ensures.goes honest)
