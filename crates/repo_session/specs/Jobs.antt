-- What a job owes the session around it.
use Rattle.std.specs.Prelude.{◌≡◌, ◌≤◌, ◌⊎◌, ◌∷◌, [], ⊤, ℕ, Bool, List, Option}
use Rattle.repo_name.specs.declared.names.Name.{Name}
use Rattle.repo_wire.specs.declared.messages.Ask.{Ask}
use Rattle.repo_wire.specs.Messages.{IsAsk, IsShortAsk}
use Rattle.repo_tree.specs.declared.configs.Config.{Config}
use Rattle.repo_tree.specs.ConfigText.{IsConfigText}
use Rattle.repo_session.specs.declared.jobs.Step.{Step}
use Rattle.repo_session.specs.declared.outcomes.Outcome.{Outcome}
use Rattle.repo_session.specs.Askers.{Asker, Holding}
use Rattle.repo_session.specs.Ends.{EndsAtOnce, IsEndBy, IsPassedOn, MayConclude}
use Rattle.repo_session.specs.Order.{Task, opened, IsWork, IsWorking, May, Obeys}
use Rattle.repo_session.specs.Traces.{Exchange, Trace}
use Rattle.repo_session.specs.Versions.{upto, shared}
use Rattle.repo_session.specs.declared.versions.Versions.{Versions}

-- a job's own rule: whether it wants the lock alone, the snapshot that it may get without having listed it, which versions it knows, whether it notes what is
-- wrong in the store and goes on, whether it takes each refusal without memory, what it may ask, give out and conclude, and after what it may want input
pub record Rule : Type 1 where
  pub exclusive : Bool
  pub snapshot : Option Name
  pub versions : Versions
  pub notes : Bool
  pub calm : Type 0
  pub allows : Trace → Ask → Type 0
  pub gives : Trace → Exchange → Type 0
  pub concludes : Trace → Outcome → Type 0
  pub wanting : Trace → Type 0

-- who asks, under a rule; the versions that the job knows and who asks does
abbrev pub task_under : Rule → Asker → Task
task_under rule who = record { who = who; exclusive = rule.exclusive; snapshot = rule.snapshot; versions = shared rule.versions who.versions; notes = rule.notes }

-- the greatest of these versions
abbrev pub known_under : Rule → Asker → ℕ
known_under rule who = upto (shared rule.versions who.versions)

-- the request fits a frame
abbrev pub IsShort : Ask → Type 0
IsShort ask = IsAsk ask × IsShortAsk ask

-- the job may ask this after the trace: it is work, the order and the job's rule allow it, and the job knows of the trace what it has to
pub record MayAsk (rule : Rule) (who : Asker) (Knows : Ask → Trace → Type 0) (es : Trace) (ask : Ask) : Type 0 where
  pub work : IsWork ask
  pub may : May (task_under rule who) es ask
  pub allowed : rule.allows es ask
  pub knows : Knows ask es

-- nothing was given out, or what the job's rule allows
abbrev pub GivesBy : Rule → Trace → Exchange → Type 0
GivesBy rule es e = (e.emitted ≡ []) ⊎ rule.gives es e

-- what a job may do on an exchange after a trace: ask for more; end; want input; or pass on a reply that is passed on
abbrev pub MayTurn : Rule → Asker → (Ask → Trace → Type 0) → (Trace → Type 0) → Trace → Exchange → Step → Type 0
MayTurn rule who Knows Wants es e (Step.Ask ask) = GivesBy rule es e × MayAsk rule who Knows (e ∷ es) ask
MayTurn rule who Knows Wants es e (Step.Finish outcome) = GivesBy rule es e × MayConclude (known_under rule who) rule.notes rule.concludes (e ∷ es) outcome
MayTurn rule who Knows Wants es e Step.Want = GivesBy rule es e × rule.wanting (e ∷ es) × Wants (e ∷ es)
MayTurn rule who Knows Wants es e Step.Away = IsPassedOn rule.notes e.ask e.say

-- a job that never wants input
abbrev pub MayStep : Rule → Asker → (Ask → Trace → Type 0) → Trace → Exchange → Step → Type 0
MayStep rule who Knows es e step = MayTurn rule who Knows (λ fs. ⊥) es e step

-- what a job may do on an item, after the trace with it
abbrev pub MayGoOn : Rule → Asker → (Ask → Trace → Type 0) → (Trace → Type 0) → Trace → Step → Type 0
MayGoOn rule who Knows Wants es (Step.Ask ask) = MayAsk rule who Knows es ask
MayGoOn rule who Knows Wants es (Step.Finish outcome) = MayConclude (known_under rule who) rule.notes rule.concludes es outcome
MayGoOn rule who Knows Wants es Step.Want = rule.wanting es × Wants es
MayGoOn rule who Knows Wants es Step.Away = ⊥

-- ---- what a job's calls owe

-- what a job may do where its config was just read: ask for more, or end
abbrev pub MayBegin : Rule → Asker → (Ask → Trace → Type 0) → Trace → Step → Type 0
MayBegin rule who Knows es (Step.Ask ask) = MayAsk rule who Knows es ask
MayBegin rule who Knows es (Step.Finish outcome) = MayConclude (known_under rule who) rule.notes rule.concludes es outcome
MayBegin rule who Knows es Step.Want = ⊥
MayBegin rule who Knows es Step.Away = ⊥

-- the first step, after each trace that only opened, by a config of a version that is known
abbrev pub JobBegins : Rule → Holding → Type 0 → (Ask → Trace → Type 0) → Config → Step → Type 0
JobBegins rule holding Fresh Knows config step = (text : List ℕ) → Fresh → IsConfigText text config → config.version ≤ known_under rule holding.who
    → MayBegin rule holding.who Knows (opened (task_under rule holding.who) holding.token text) step

-- the step on an exchange, after each trace at whose end the job's request was pending; the lock is held after the exchange
abbrev pub TurnsOn : Rule → Holding → (Ask → Trace → Type 0) → (Ask → Trace → Type 0) → (Trace → Type 0) → Exchange → Step → Type 0
TurnsOn rule holding Knew Knows Wants e step = (es : Trace) → IsWorking (task_under rule holding.who) holding.token (e ∷ es) → Obeys (task_under rule holding.who) rule.allows rule.gives es
    → MayAsk rule holding.who Knew es e.ask → MayTurn rule holding.who Knows Wants es e step

abbrev pub StepsOn : Rule → Holding → (Ask → Trace → Type 0) → (Ask → Trace → Type 0) → Exchange → Step → Type 0
StepsOn rule holding Knew Knows e step = TurnsOn rule holding Knew Knows (λ fs. ⊥) e step

-- the step ends the job by this exchange: by an end that it caused, or by passing its reply on
abbrev pub IsEndStep : ℕ → Exchange → Step → Type 0
IsEndStep known e (Step.Finish outcome) = IsEndBy known e outcome
IsEndStep known e Step.Away = ⊤
IsEndStep known e _ = ⊥

-- where a job ends at once on the exchange, the step ends it by that
abbrev pub HeedsOn : ℕ → Bool → Exchange → Step → Type 0
HeedsOn known notes e step = EndsAtOnce known notes e → IsEndStep known e step

-- so it is on each exchange of the job, by the versions that it and who asks know
abbrev pub HeedsReply : Rule → Holding → (Ask → Trace → Type 0) → Exchange → Step → Type 0
HeedsReply rule holding Knew e step = (es : Trace) → IsWorking (task_under rule holding.who) holding.token (e ∷ es) → Obeys (task_under rule holding.who) rule.allows rule.gives es → MayAsk rule holding.who Knew es e.ask
    → HeedsOn (known_under rule holding.who) rule.notes e step

-- what is asked next fits a frame
abbrev pub IsShortStep : Step → Type 0
IsShortStep (Step.Ask ask) = IsShort ask
IsShortStep _ = ⊤
