use Rattle.repo_session.specs.Jobs.{task_under}
use Rattle.repo_session.specs.Order.{opened}
use Rattle.repo_session.proofs.Deleting.{none_deleted_at_first}
use Rattle.repo_session.proofs.Holding.{opened_working}
use Rattle.repo_session.proofs.Listing.{opened_snapshots}
use Rattle.repo_prune.specs.Forgetting.{forget_rule}
use Rattle.repo_prune.proofs.Choosing.{asks_page, may_page}
use Rattle.repo_prune.proofs.forgets.ForgetJob.opened.Goals as goal

pub returns-clause-begins : goal.returns-clause-begins
returns-clause-begins c = λ text fresh reads known.
    let f = c.args.self.now in
    let holding = c.args._holder.now in
    let task = task_under (forget_rule f.choice) holding.who in
    let es = opened task holding.token text in
    let working = opened_working task holding.token text c.args._config.now reads known in
    let due = c.page_ask.ensures.due task holding.token es working fresh.none_read (opened_snapshots f.snapshots task holding.token text fresh) in
    let page = asks_page f.snapshots.roll c.page_ask.result es fresh.of_kind fresh.no_names due.knows.rolls in
    let first = may_page f es c.page_ask.result page.0 page.1 (none_deleted_at_first task holding.token text) due.knows in
    record { work = due.work; may = due.may; allowed = first.0; knows = first.1 }
