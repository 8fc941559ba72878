use Rattle.std.proofs.Common.{refl, subst, inr, ◌∙◌}
use Rattle.repo_dial.specs.Bringing.{Brought, Ended}
use Rattle.repo_prune.specs.Forgetting.{forget_rule}
use Rattle.repo_prog.specs.Jobs.{vault_asker}
use Rattle.repo_prog.proofs.JobLemmas.{forget_none}
use Rattle.repo_prog.proofs.TellLemmas.{nothing_told, tells_as}
use Rattle.repo_prog.proofs.forget.forget_command.Goals as goal

pub returns-in_default-clause-obeyed : goal.returns-in_default-clause-obeyed
returns-in_default-clause-obeyed g c = forget_none c.args.caller.now c.args.choice c.args.route.now.retry (g.D.Dial.connections c.args.route.now.dial)

pub returns-in-Err-NoPolicy-clause-obeyed : goal.returns-in-Err-NoPolicy-clause-obeyed
returns-in-Err-NoPolicy-clause-obeyed g c = forget_none c.args.caller.now c.args.choice c.args.route.now.retry (g.D.Dial.connections c.args.route.now.dial)

pub returns-in-Ok-bring-clause-obeyed : goal.returns-in-Ok-bring-clause-obeyed
returns-in-Ok-bring-clause-obeyed g c =
    let made = c.in-Ok-new.ensures in
    inr (c.bring.result, subst (λ choice. Brought (forget_rule choice) (vault_asker c.args.caller.now) c.bring.result c.args.route.now.retry (g.D.Dial.connections c.args.route.now.dial) (g.D.Dial.connections c.bring.new.dial)) made.choice (subst (λ who. Brought (forget_rule c.in-Ok-new.forget.job.choice) who c.bring.result c.args.route.now.retry (g.D.Dial.connections c.args.route.now.dial) (g.D.Dial.connections c.bring.new.dial)) (made.who ∙ c.in-Ok.ensures) c.bring.ensures.brought))

pub returns-in-Err-clause-obeyed : goal.returns-in-Err-clause-obeyed
returns-in-Err-clause-obeyed g c =
    let made = c.in-Ok-new.ensures in
    inr (c.bring.result, subst (λ choice. Brought (forget_rule choice) (vault_asker c.args.caller.now) c.bring.result c.args.route.now.retry (g.D.Dial.connections c.args.route.now.dial) (g.D.Dial.connections c.bring.new.dial)) made.choice (subst (λ who. Brought (forget_rule c.in-Ok-new.forget.job.choice) who c.bring.result c.args.route.now.retry (g.D.Dial.connections c.args.route.now.dial) (g.D.Dial.connections c.bring.new.dial)) (made.who ∙ c.in-Ok.ensures) c.bring.ensures.brought))

pub returns-in_default-clause-tells : goal.returns-in_default-clause-tells
returns-in_default-clause-tells g c = nothing_told _ _ _ _ _ c.failed.ensures refl

pub returns-in-Err-NoPolicy-clause-tells : goal.returns-in-Err-NoPolicy-clause-tells
returns-in-Err-NoPolicy-clause-tells g c = nothing_told _ _ _ _ _ c.failed-in-Err-NoPolicy.ensures refl

pub returns-in-Ok-bring-clause-tells : goal.returns-in-Ok-bring-clause-tells
returns-in-Ok-bring-clause-tells g c =
    let made = c.in-Ok-new.ensures in
    let ended = subst (λ choice. Ended (forget_rule choice) (vault_asker c.args.caller.now) c.in-Ok-bring.outcome c.args.route.now.retry (g.D.Dial.connections c.args.route.now.dial) (g.D.Dial.connections c.bring.new.dial)) made.choice
    (subst (λ who. Ended (forget_rule c.in-Ok-new.forget.job.choice) who c.in-Ok-bring.outcome c.args.route.now.retry (g.D.Dial.connections c.args.route.now.dial) (g.D.Dial.connections c.bring.new.dial)) (made.who ∙ c.in-Ok.ensures) c.in-Ok-bring.ensures.brought) in
    tells_as _ _ _ _ _ (λ names is. subst (λ o. Ended (forget_rule c.args.choice) (vault_asker c.args.caller.now) o c.args.route.now.retry (g.D.Dial.connections c.args.route.now.dial) (g.D.Dial.connections c.bring.new.dial)) is ended) _ c.show_forgotten.ensures.shows

pub returns-in-Err-clause-tells : goal.returns-in-Err-clause-tells
returns-in-Err-clause-tells g c = nothing_told _ _ _ _ _ c.failed-in-Err.ensures refl
