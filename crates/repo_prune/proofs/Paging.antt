-- What a job asks for behind a page.
use Rattle.std.proofs.Common.{◌≡◌, ◌∙◌, ℕ, ap}
use Rattle.repo_name.specs.declared.kinds.Kind.{Kind}
use Rattle.repo_wire.specs.declared.messages.Ask.{Ask}
use Rattle.repo_session.specs.declared.jobs.Step.{Step}
use Rattle.repo_session.specs.declared.parts.Came.{Came}
use Rattle.repo_session.specs.declared.rolls.Roll.{Roll}
use Rattle.repo_session.specs.Order.{Task, last_of}
use Rattle.repo_session.specs.Readings.{IsAskDue, KnowsRoll, PartSteps, TakesPage}
use Rattle.repo_session.specs.Traces.{Exchange, Trace}

-- the page of a kind behind the last name, which is due
abbrev pub IsNextPage : Task → Kind → Roll → Ask → Trace → Type 0
IsNextPage task kind roll ask es = (ask ≡ Ask.List kind (last_of roll.names.items)) × IsAskDue task (KnowsRoll roll) es ask

-- nothing else is asked for on a page
pub page_behind : (known : ℕ) (task : Task) (kind : Kind) (old new : Roll) (e : Exchange) (es : Trace) (step : Step) → old.kind ≡ kind → TakesPage old e.say (Came.Step step) new → PartSteps known task (KnowsRoll new) e es step
    → PartSteps known task (IsNextPage task kind new) e es step
page_behind known task kind old new e es (Step.Ask ask) of_kind takes on = (
  on.0,
  record { work = on.1.work; reads = on.1.reads; once = on.1.once; may = on.1.may; knows = (takes.1 ∙ ap (λ k. Ask.List k (last_of new.names.items)) of_kind, on.1) },
)
page_behind known task kind old new e es (Step.Finish outcome) of_kind takes on = on
page_behind known task kind old new e es Step.Want of_kind takes on = on
page_behind known task kind old new e es Step.Away of_kind takes on = on
