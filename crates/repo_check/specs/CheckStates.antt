-- What is known while a check goes on.
use Rattle.std.specs.Prelude.{◌≡◌}
use Rattle.repo_wire.specs.declared.messages.Ask.{Ask}
use Rattle.repo_session.specs.Sessions.{FitsSession}
use Rattle.repo_session.specs.Traces.{Trace}
use Rattle.repo_session.specs.declared.jobs.Step.{Step}
use Rattle.repo_session.specs.declared.outcomes.Outcome.{Outcome}
use Rattle.repo_check.specs.Checking.{CheckConcludes, check_rule}
use Rattle.repo_check.specs.Surveys.{HasTaken, IsFreshSurvey, IsSurveyMark, IsSurveyed, RoundsView, Surveys, rounds_of}
use Rattle.repo_check.specs.Walks.{WalkView, walk_of}
use Rattle.repo_check.specs.declared.checks.Check.{Check}
use Rattle.repo_session.specs.declared.sessions.Session.{Session}
use Rattle.repo_check.specs.declared.surveys.SurveyMark.{SurveyMark}

-- nothing was listed yet
abbrev pub IsFreshCheck : Check → Type 0
IsFreshCheck j = IsFreshSurvey (rounds_of j.survey)

-- what is known where this is pending
abbrev pub KnowsCheck : Check → Ask → Trace → Type 0
KnowsCheck j ask es = Surveys (rounds_of j.survey) (walk_of j.survey.walk) ask es

-- it ends, as it may once its survey is over
abbrev pub Concluded : Check → Step → Type 0
Concluded j step = (outcome : Outcome) × (step ≡ Step.Finish outcome) × ((es : Trace) → IsSurveyed (rounds_of j.survey) (walk_of j.survey.walk) es → CheckConcludes es outcome)

-- what was known before the reply to a request was taken, after which all had come, is known
abbrev pub TakesBack : Check → Ask → SurveyMark → Check → Type 0
TakesBack old ask mark new = (rounds : RoundsView) (walk : WalkView) (es : Trace) → IsSurveyMark walk mark → HasTaken rounds walk ask (rounds_of old.survey) (walk_of old.survey.walk) → Surveys rounds walk ask es → KnowsCheck new ask es

-- ---- the client

-- the check stands where the trace leaves it
abbrev pub FitsCheck : Session Check → Trace → Type 0
FitsCheck s es = FitsSession (λ (j : Check). tt {0}) (λ h. check_rule) IsFreshCheck KnowsCheck s es
