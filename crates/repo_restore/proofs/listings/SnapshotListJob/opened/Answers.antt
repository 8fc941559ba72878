use Rattle.repo_session.specs.Jobs.{task_under}
use Rattle.repo_session.specs.Order.{opened}
use Rattle.repo_session.proofs.Holding.{opened_working}
use Rattle.repo_session.proofs.KindReads.{due_snapshot}
use Rattle.repo_session.proofs.Listing.{opened_snapshots}
use Rattle.repo_restore.specs.Listing.{list_rule}
use Rattle.repo_restore.proofs.listings.SnapshotListJob.opened.Goals as goal

pub returns-clause-begins : goal.returns-clause-begins
returns-clause-begins c = λ text fresh reads known.
    let s = c.args.self.now.snapshots in
    let holding = c.args._holder.now in
    let task = task_under list_rule holding.who in
    let es = opened task holding.token text in
    let working = opened_working task holding.token text c.args._config.now reads known in
    let due = c.page_ask.ensures.due task holding.token es working fresh.none_read (opened_snapshots s task holding.token text fresh) in
    record { work = due.work; may = due.may; allowed = due_snapshot task s es _ due; knows = due.knows }
