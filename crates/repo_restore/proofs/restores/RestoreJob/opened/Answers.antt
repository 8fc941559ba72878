use Rattle.std.proofs.Common.{sym, subst}
use Rattle.repo_wire.specs.declared.messages.Ask.{Ask}
use Rattle.repo_session.specs.Jobs.{task_under, MayAsk}
use Rattle.repo_session.specs.Order.{opened}
use Rattle.repo_restore.specs.Restoring.{restore_rule}
use Rattle.repo_restore.specs.RestoreStates.{KnowsRestore}
use Rattle.repo_restore.proofs.Advancing.{first_ask}
use Rattle.repo_restore.proofs.restores.RestoreJob.opened.Goals as goal

pub returns-clause-begins : goal.returns-clause-begins
returns-clause-begins c = λ text new reads known.
    let j = c.args.self.now in
    let holding = c.args._holder.now in
    let rule = restore_rule j.snapshot in
    let A : Ask → Type 0 = λ a. MayAsk rule holding.who (KnowsRestore j) (opened (task_under rule holding.who) holding.token text) a in
    subst A (sym c.get_ask.ensures.ask) (first_ask j holding.who holding.token text c.args._config.now new reads known)
