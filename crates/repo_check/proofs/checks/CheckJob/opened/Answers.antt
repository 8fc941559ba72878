use Rattle.repo_session.specs.Order.{opened}
use Rattle.repo_check.specs.Checking.{check_task}
use Rattle.repo_check.proofs.CheckSteps.{may_ask}
use Rattle.repo_check.proofs.checks.CheckJob.opened.Goals as goal

pub returns-clause-begins : goal.returns-clause-begins
returns-clause-begins c = λ text fresh reads known.
    let holding = c.args._holder.now in
    let first = c.first.ensures.first fresh (check_task holding.who) holding.token text c.args._config.now reads known in
    may_ask c.args.self.now holding.who (opened (check_task holding.who) holding.token text) c.first.result first.0 first.1
