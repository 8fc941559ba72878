-- What a job owes where a part of it took the reply.
use Rattle.std.proofs.Common.{◌≡◌, ◌∷◌, ℕ, Bool, false, sym, subst, inl}
use Rattle.repo_wire.specs.declared.messages.Ask.{Ask}
use Rattle.repo_session.specs.declared.jobs.Step.{Step}
use Rattle.repo_session.specs.declared.outcomes.Outcome.{Outcome}
use Rattle.repo_session.specs.Askers.{Asker}
use Rattle.repo_session.specs.Ends.{Concludes, IsEndBy, IsPassedOn, MayConclude}
use Rattle.repo_session.specs.Jobs.{GivesBy, HeedsOn, MayStep, Rule, known_under, task_under}
use Rattle.repo_session.specs.Order.{Task}
use Rattle.repo_session.specs.Readings.{IsAskDue, PartSteps}
use Rattle.repo_session.specs.Traces.{Exchange, Trace}
use Rattle.repo_session.proofs.Heeding.{heeds_follow}

-- what is due by what one part knows is due by what another does
pub steps_as : (known : ℕ) (task : Task) (Part Other : Ask → Trace → Type 0) (e : Exchange) (es : Trace) (step : Step) → ((ask : Ask) → IsAskDue task Part (e ∷ es) ask → IsAskDue task Other (e ∷ es) ask)
    → PartSteps known task Part e es step → PartSteps known task Other e es step
steps_as known task Part Other e es (Step.Ask ask) on h = (h.0, on ask h.1)
steps_as known task Part Other e es (Step.Finish outcome) on h = h
steps_as known task Part Other e es Step.Want on h = h
steps_as known task Part Other e es Step.Away on h = h

-- an end that the exchange caused, for a job that notes no faults
ends_by : (known : ℕ) (notes : Bool) (Own : Trace → Outcome → Type 0) (e : Exchange) (es : Trace) (outcome : Outcome) → notes ≡ false → IsEndBy known e outcome → MayConclude known notes Own (e ∷ es) outcome
ends_by known notes Own e es outcome plain h =
    let C : Outcome → Type 0 = λ o. Concludes known Own (e ∷ es) o in
    subst (λ b. MayConclude known b Own (e ∷ es) outcome) (sym plain) (subst C (sym h.1) (inl (inl h.2)))

-- the job's step is the part's, where the job may ask what is due of that
pub part_turns : (rule : Rule) (who : Asker) (Part Knows : Ask → Trace → Type 0) (e : Exchange) (es : Trace) (step : Step) → rule.notes ≡ false → GivesBy rule es e
    → ((ask : Ask) → IsAskDue (task_under rule who) Part (e ∷ es) ask → rule.allows (e ∷ es) ask × Knows ask (e ∷ es)) → PartSteps (known_under rule who) (task_under rule who) Part e es step → MayStep rule who Knows es e step
part_turns rule who Part Knows e es (Step.Ask ask) plain gives on h =
    let own = on ask h.1 in
    (gives, record { work = h.1.work; may = h.1.may; allowed = own.0; knows = own.1 })
part_turns rule who Part Knows e es (Step.Finish outcome) plain gives on h = (gives, ends_by (known_under rule who) rule.notes rule.concludes e es outcome plain h)
part_turns rule who Part Knows e es Step.Want plain gives on h = absurd h
part_turns rule who Part Knows e es Step.Away plain gives on h = subst (λ b. IsPassedOn b e.ask e.say) (sym plain) h

-- and heeds what ends a job at once
pub part_heeds : (known : ℕ) (task : Task) (Part : Ask → Trace → Type 0) (e : Exchange) (es : Trace) (step : Step) → PartSteps known task Part e es step → HeedsOn known false e step
part_heeds known task Part e es (Step.Ask ask) h = heeds_follow known false e (Step.Ask ask) h.0
part_heeds known task Part e es (Step.Finish outcome) h = λ ends. h
part_heeds known task Part e es Step.Want h = absurd h
part_heeds known task Part e es Step.Away h = λ ends. tt
