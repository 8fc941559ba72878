use Rattle.std.proofs.Common.{◌∷◌, refl, sym, inl}
use Rattle.std.proofs.lemmas.Result.{IfOk-weaker, on_err_weaker}
use Rattle.repo_session.specs.declared.parts.Came.{Came}
use Rattle.repo_session.specs.Traces.{silent}
use Rattle.repo_session.specs.Versions.{upto}
use Rattle.repo_check.specs.Checking.{check_task}
use Rattle.repo_check.specs.Surveys.{rounds_of}
use Rattle.repo_check.specs.Walks.{walk_of}
use Rattle.repo_check.proofs.CheckSteps.{concludes, step_turns}
use Rattle.repo_check.proofs.Heeding.{asker_heeds}
use Rattle.repo_check.proofs.Rounding.{of_any, on_any}
use Rattle.repo_check.proofs.checks.CheckJob.reply.Goals as goal

pub returns-in_err-take-clause-knows : goal.returns-in_err-take-clause-knows
returns-in_err-take-clause-knows c = on_any c.from_residual.result c.in_err-take.ensures.knows

pub returns-in-All-clause-steps : goal.returns-in-All-clause-steps
returns-in-All-clause-steps c = IfOk-weaker c.conclude.result _ _ (λ step h es w obeys asked.
    let who = c.args.holder.now.who in
    let over = (rw c.in-All.is at c.in_ok-take.ensures.takes) (check_task who) c.args.holder.now.token es (sym c.versions.ensures) w asked.may asked.knows in
    let trace = silent c.args.ask.now c.args.say.now ∷ es in
    rw h.1 (inl refl, concludes (upto who.versions) trace h.0 (h.2 trace over))) c.conclude.ensures.concluded

pub returns-in-All-clause-knows : goal.returns-in-All-clause-knows
returns-in-All-clause-knows c = on_err_weaker c.conclude.result (λ h es knows.
    let taken = (rw c.in-All.is at c.in_ok-take.ensures.over) refl in
    h (rounds_of c.args.self.now.survey) (walk_of c.args.self.now.survey.walk) es c.mark-mark.ensures taken knows) c.conclude.ensures.back

pub returns-in-Step-clause-steps : goal.returns-in-Step-clause-steps
returns-in-Step-clause-steps c = λ es w obeys asked.
    let who = c.args.holder.now.who in
    let on = (rw c.in-Step.is at c.in_ok-take.ensures.takes) (check_task who) c.args.holder.now.token es (sym c.versions.ensures) w asked.may asked.knows in
    step_turns (record { survey = c.take.new.self }) who c.args.ask.now c.args.say.now es c.in-Step.step on

-- ---- on which replies it ends at once

pub returns-in-All-clause-heeds : goal.returns-in-All-clause-heeds
returns-in-All-clause-heeds c = of_any c.conclude.result _ (λ step es w obeys asked ends.
    let s = c.args.self.now.survey in
    absurd (asker_heeds c.versions.result c.args.holder.now.who (rounds_of s) (walk_of s.walk) c.args.ask.now c.args.say.now (Came.All tt) es c.versions.ensures (rw c.in-All.is at c.in_ok-take.ensures.heeds) asked.may asked.knows ends))

pub returns-in-Step-clause-heeds : goal.returns-in-Step-clause-heeds
returns-in-Step-clause-heeds c = λ es w obeys asked.
    let s = c.args.self.now.survey in
    asker_heeds c.versions.result c.args.holder.now.who (rounds_of s) (walk_of s.walk) c.args.ask.now c.args.say.now (Came.Step c.in-Step.step) es c.versions.ensures (rw c.in-Step.is at c.in_ok-take.ensures.heeds) asked.may asked.knows
