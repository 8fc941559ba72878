use Rattle.std.proofs.Common.{rules, ◌≢◌, sym, subst}
use Rattle.repo_name.specs.declared.tokens.Token.{Token}
use Rattle.repo_wire.specs.declared.messages.Ask.{Ask}
use Rattle.repo_session.specs.Jobs.{MayAsk, task_under}
use Rattle.repo_session.specs.Order.{opened}
use Rattle.repo_prune.specs.Upgrading.{upgrade_rule}
use Rattle.repo_prune.specs.UpgradeStates.{KnowsUpgrade}
use Rattle.repo_prune.proofs.UpgradeSteps.{upgrade_asked}
use Rattle.repo_prune.proofs.upgrades.UpgradeJob.opened.Goals as goal

pub returns-clause-begins : goal.returns-clause-begins
returns-clause-begins c = λ text fresh reads known.
    let j = c.args.self.now in
    let holding = c.args.holder.now in
    let other : c.args.config.now.version ≢ 2 = search rules in
    let M : Token → Type 0 = λ t. MayAsk upgrade_rule holding.who (KnowsUpgrade j) (opened (task_under upgrade_rule holding.who) holding.token text) (Ask.Upgrade t) in
    subst M (sym c.token.ensures) (upgrade_asked j holding.who holding.token text c.args.config.now reads known other)
