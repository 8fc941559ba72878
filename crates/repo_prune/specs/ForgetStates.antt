-- What is known while a forget goes on.
use Rattle.std.specs.Prelude.{◌≡◌, ◌⊎◌, ◌∷◌, ℕ, List, slice_get, take, Some, Option}
use Rattle.repo_name.specs.declared.kinds.Kind.{Kind}
use Rattle.repo_name.specs.declared.names.Name.{Name}
use Rattle.repo_name.specs.declared.tokens.Token.{Token}
use Rattle.repo_wire.specs.declared.messages.Ask.{Ask}
use Rattle.repo_wire.specs.declared.messages.Say.{Say}
use Rattle.repo_session.specs.declared.jobs.Step.{Step}
use Rattle.repo_session.specs.Askers.{Holding}
use Rattle.repo_session.specs.Deletions.{DeleteDone, NoneDeleted, names_deleted}
use Rattle.repo_session.specs.Jobs.{MayStep, StepsOn}
use Rattle.repo_session.specs.Listings.{IsFreshRoll, KnowsSnapshots}
use Rattle.repo_session.specs.Order.{IsWorking}
use Rattle.repo_session.specs.Sessions.{FitsSession}
use Rattle.repo_session.specs.declared.sessions.Session.{Session}
use Rattle.repo_session.specs.Traces.{Each, Trace, silent}
use Rattle.repo_prune.specs.declared.choices.Choice.{Choice}
use Rattle.repo_prune.specs.declared.forgets.Forget.{Forget}
use Rattle.repo_prune.specs.Forgetting.{forget_rule, forget_task, AreChosen, GoesByPolicy}

-- nothing was listed yet
abbrev pub IsFreshForget : Forget → Type 0
IsFreshForget f = IsFreshRoll f.snapshots

-- the chosen snapshots are known, and of the first of them, and of no others, the deletes were asked for and are done
pub record Deletes (choice : Choice) (names : List Name) (done : ℕ) (es : Trace) : Type 0 where
  pub chosen : AreChosen choice es names
  pub gone : Each (λ n. DeleteDone es Kind.Snapshot n) (take done names)
  pub deleted : names_deleted Kind.Snapshot es ≡ take done names

-- what is known while it reads: nothing was deleted, and the snapshots are read so far
abbrev pub KnowsReading : Forget → Ask → Trace → Type 0
KnowsReading f ask es = NoneDeleted es × KnowsSnapshots f.snapshots ask es

-- what is known while it deletes: this is the delete of the next one
abbrev pub KnowsDelete : Forget → Ask → Trace → Type 0
KnowsDelete f ask es = (token : Token) × (n : Name) × (ask ≡ Ask.Delete token Kind.Snapshot n) × (slice_get f.chosen.items f.deleted ≡ Some n) × Deletes f.choice f.chosen.items f.deleted es

-- what is known where this is pending
abbrev pub KnowsForget : Forget → Ask → Trace → Type 0
KnowsForget f ask es = KnowsReading f ask es ⊎ KnowsDelete f ask es

-- the step on an exchange at which it read
abbrev pub ForgetReadsOn : Forget → Holding → Ask → Say → Step → Forget → Type 0
ForgetReadsOn old holding ask say step new = StepsOn (forget_rule old.choice) holding (KnowsReading old) (KnowsForget new) (silent ask say) step

-- the step where these were chosen on an exchange
abbrev pub ForgetBegins : Forget → Holding → List Name → Step → Forget → Type 0
ForgetBegins old holding names step new = (ask : Ask) (say : Say) (es : Trace) → IsWorking (forget_task holding.who) holding.token (silent ask say ∷ es) → NoneDeleted (silent ask say ∷ es) → AreChosen old.choice (silent ask say ∷ es) names
    → MayStep (forget_rule old.choice) holding.who (KnowsForget new) es (silent ask say) step

-- the step where the next one is to be deleted after an exchange
abbrev pub ForgetGoesOn : Forget → Holding → Step → Forget → Type 0
ForgetGoesOn old holding step new = (ask : Ask) (say : Say) (es : Trace) → IsWorking (forget_task holding.who) holding.token (silent ask say ∷ es) → Deletes old.choice old.chosen.items old.deleted (silent ask say ∷ es)
    → MayStep (forget_rule old.choice) holding.who (KnowsForget new) es (silent ask say) step

-- what it was handed
abbrev pub choice_in : Forget → Choice
choice_in f = f.choice

-- which snapshots it is to forget
abbrev pub choice_of : Session Forget → Choice
choice_of f = f.job.choice

-- the forget stands where the trace leaves it
abbrev pub FitsForget : Session Forget → Trace → Type 0
FitsForget f es = FitsSession choice_in forget_rule IsFreshForget KnowsForget f es

-- where it was handed names, a page was taken
abbrev pub TakesPageByNames : Forget → Holding → Say → Step → Forget → Type 0
TakesPageByNames old holding say step new = (kind : Kind) (after : Option Name) (names : List Name) → old.choice ≡ Choice.Names names
    → ForgetReadsOn old holding (Ask.List kind after) say step new

-- where it goes by a policy, it read on an exchange
abbrev pub ReadsOnByPolicy : Forget → Holding → Ask → Say → Step → Forget → Type 0
ReadsOnByPolicy old holding ask say step new = GoesByPolicy old.choice → ForgetReadsOn old holding ask say step new
