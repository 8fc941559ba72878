use Rattle.std.proofs.Common.{Ok, Err}
use Rattle.std.proofs.lemmas.Result.{err_from_is_err_and}
use Rattle.repo_backup.specs.Items.{fed_part}
use Rattle.repo_backup.specs.ItemRuns.{StepGives, OnceGives, items_error}
use Rattle.repo_backup.proofs.ItemRunning.{goes_fed, goes_as, goes_nowhere, hungry_some, once_ok, once_err, once_unfed}
use Rattle.repo_session.specs.Traces.{feeding}
use Rattle.repo_backup.specs.declared.item_steps.ItemsError.{ItemsError}
use Rattle.repo_backup.proofs.item_steps.feed_once.Goals as goal

pub returns-in_err-asked-clause-goes : goal.returns-in_err-asked-clause-goes
returns-in_err-asked-clause-goes g c honest =
    let p = err_from_is_err_and c.from_residual.result c.from_residual.ensures.1 in
    let took = c.in-Ok.ensures.took in
    let e = c.in_err-asked.field-0.0 in
    let item = c.args.offer.item in
    let n = c.in-Ok.count in
    let old = c.args.backup.now in
    let from = g.S.Shelf.store c.args.shelf.now in
    let failed = g.S.Shelf.failed c.args.shelf.now in
    let to = g.S.Shelf.store c.answered.new.shelf in
    let failing = g.S.Shelf.failed c.answered.new.shelf in
    let goes = goes_fed (StepGives (Err e)) (fed_part n item) old c.feed.new.self c.answered.new.backup from failed to failing took.2 (c.in_err-asked.ensures.goes honest) in
    rw (p.1, p.2) (goes_as (λ es now. StepGives (Err e) (feeding (fed_part n item) es) now) (OnceGives c.args.offer.place c.args.offer.taken item (Err (items_error e))) old c.answered.new.backup from failed to failing
    (λ es now fits h. once_err c.args.offer.place c.args.offer.taken item n e es now (hungry_some old es fits c.requires) took.1 h) goes)

pub returns-clause-goes : goal.returns-clause-goes
returns-clause-goes g c honest =
    let took = c.in-Ok.ensures.took in
    let item = c.args.offer.item in
    let n = c.in-Ok.count in
    let asked = c.in_ok-asked.asked in
    let old = c.args.backup.now in
    let from = g.S.Shelf.store c.args.shelf.now in
    let failed = g.S.Shelf.failed c.args.shelf.now in
    let to = g.S.Shelf.store c.answered.new.shelf in
    let failing = g.S.Shelf.failed c.answered.new.shelf in
    let goes = goes_fed (StepGives (Ok asked)) (fed_part n item) old c.feed.new.self c.answered.new.backup from failed to failing took.2 (c.in_ok-asked.ensures.goes honest) in
    goes_as (λ es now. StepGives (Ok asked) (feeding (fed_part n item) es) now) (OnceGives c.args.offer.place c.args.offer.taken item (Ok (n, asked))) old c.answered.new.backup from failed to failing
    (λ es now fits h. once_ok c.args.offer.place c.args.offer.taken item n asked es now (hungry_some old es fits c.requires) h) goes

pub returns-in-Err-clause-goes : goal.returns-in-Err-clause-goes
returns-in-Err-clause-goes g c honest =
    let e = c.in-Err.error in
    let place = c.args.offer.place in
    let taken = c.args.offer.taken in
    let item = c.args.offer.item in
    goes_nowhere (OnceGives place taken item (Err (ItemsError.Feed place taken e))) c.args.backup.now c.feed.new.self (g.S.Shelf.store c.args.shelf.now) (g.S.Shelf.failed c.args.shelf.now) c.in-Err.ensures.stays
    (λ es fits. once_unfed place taken item e es (c.in-Err.ensures.fault c.requires es fits))
