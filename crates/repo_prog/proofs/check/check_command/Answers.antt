use Rattle.std.proofs.Common.{refl, subst, inr, ◌∙◌}
use Rattle.repo_dial.specs.Bringing.{Brought, Ended}
use Rattle.repo_check.specs.Checking.{check_rule}
use Rattle.repo_prog.specs.Jobs.{vault_asker}
use Rattle.repo_prog.proofs.JobLemmas.{check_none}
use Rattle.repo_prog.proofs.TellLemmas.{either_as, neither_told}
use Rattle.repo_prog.proofs.check.check_command.Goals as goal

pub returns-in_default-clause-obeyed : goal.returns-in_default-clause-obeyed
returns-in_default-clause-obeyed g c = check_none c.args.caller.now c.args.route.now.retry (g.D.Dial.connections c.args.route.now.dial)

pub returns-in-Ok-bring-clause-obeyed : goal.returns-in-Ok-bring-clause-obeyed
returns-in-Ok-bring-clause-obeyed g c = inr (c.bring.result, subst (λ who. Brought check_rule who c.bring.result c.args.route.now.retry (g.D.Dial.connections c.args.route.now.dial) (g.D.Dial.connections c.bring.new.dial)) (c.new-check.ensures.who ∙ c.in-Ok.ensures) c.bring.ensures.brought)

pub returns-in-Err-clause-obeyed : goal.returns-in-Err-clause-obeyed
returns-in-Err-clause-obeyed g c = inr (c.bring.result, subst (λ who. Brought check_rule who c.bring.result c.args.route.now.retry (g.D.Dial.connections c.args.route.now.dial) (g.D.Dial.connections c.bring.new.dial)) (c.new-check.ensures.who ∙ c.in-Ok.ensures) c.bring.ensures.brought)

pub returns-in_default-clause-tells : goal.returns-in_default-clause-tells
returns-in_default-clause-tells g c = neither_told _ _ _ _ _ _ _ c.failed.ensures refl

pub returns-in-Ok-bring-clause-tells : goal.returns-in-Ok-bring-clause-tells
returns-in-Ok-bring-clause-tells g c =
    let ended = subst (λ who. Ended check_rule who c.in-Ok-bring.outcome c.args.route.now.retry (g.D.Dial.connections c.args.route.now.dial) (g.D.Dial.connections c.bring.new.dial)) (c.new-check.ensures.who ∙ c.in-Ok.ensures) c.in-Ok-bring.ensures.brought in
    either_as _ _ _ _ _ _ _ _ (λ n is. subst (λ o. Ended check_rule (vault_asker c.args.caller.now) o c.args.route.now.retry (g.D.Dial.connections c.args.route.now.dial) (g.D.Dial.connections c.bring.new.dial)) is ended) (λ found is. subst (λ o. Ended check_rule (vault_asker c.args.caller.now) o c.args.route.now.retry (g.D.Dial.connections c.args.route.now.dial) (g.D.Dial.connections c.bring.new.dial)) is ended) _ c.show_checked.ensures.shows

pub returns-in-Err-clause-tells : goal.returns-in-Err-clause-tells
returns-in-Err-clause-tells g c = neither_told _ _ _ _ _ _ _ c.failed-in-Err.ensures refl
