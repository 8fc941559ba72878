use Rattle.std.proofs.lemmas.Result.{IfOk-weaker}
use Rattle.repo_session.specs.declared.jobs.Step.{Step}
use Rattle.repo_prune.proofs.Choosing.{heeds_by_names, steps_by_names, steps_by_policy}
use Rattle.repo_prune.proofs.forgets.ForgetJob.reply.Goals as goal

pub returns-in-Names-clause-steps : goal.returns-in-Names-clause-steps
returns-in-Names-clause-steps c = IfOk-weaker c.take_page.result _ _ (λ (step : Step) h.
    steps_by_names c.args.self.now c.args.holder.now c.args.ask.now c.args.say.now step c.take_page.new.self c.in-Names.field-0 c.in-Names.is c.in_default-ask.not-Delete h) c.take_page.ensures.steps

pub returns-in_default-choice-clause-steps : goal.returns-in_default-choice-clause-steps
returns-in_default-choice-clause-steps c = IfOk-weaker c.take_reading.result _ _ (λ (step : Step) h.
    steps_by_policy c.args.self.now c.args.holder.now c.args.ask.now c.args.say.now step c.take_reading.new.self c.in_default-choice.not-Names c.in_default-ask.not-Delete h) c.take_reading.ensures.steps

pub returns-in-Names-clause-heeds : goal.returns-in-Names-clause-heeds
returns-in-Names-clause-heeds c = IfOk-weaker c.take_page.result _ _ (λ (step : Step) h.
    heeds_by_names c.args.self.now c.args.holder.now c.args.ask.now c.args.say.now step c.in-Names.field-0 c.in-Names.is c.in_default-ask.not-Delete h) c.take_page.ensures.heeds
