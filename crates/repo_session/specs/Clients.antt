-- What a client owes.
use Rattle.std.specs.Prelude.{◌≡◌, ◌≢◌, ◌+◌, ⊤, List, length, Option, Some, None}
use Rattle.repo_name.specs.declared.tokens.Token.{Token}
use Rattle.repo_wire.specs.declared.messages.Ask.{Ask}
use Rattle.repo_wire.specs.declared.messages.Reply.{Reply}
use Rattle.repo_wire.specs.declared.messages.Request.{Request}
use Rattle.repo_wire.specs.declared.messages.Say.{Say}
use Rattle.repo_session.specs.declared.emissions.Emission.{Emission}
use Rattle.repo_session.specs.declared.outcomes.Outcome.{Outcome}
use Rattle.repo_session.specs.Ends.{AreHeeded, MayConclude, NumbersAreSpent, before_unlock}
use Rattle.repo_session.specs.Askers.{Asker}
use Rattle.repo_session.specs.Jobs.{Rule, task_under}
use Rattle.repo_session.specs.Order.{Task, IsUnlock, Holds, May, IsPermitted, Obeys}
use Rattle.repo_session.specs.Traces.{Exchange, Exchanged, Trace, giving}
use Rattle.repo_session.specs.Versions.{upto}

-- the reply is to this request
abbrev pub IsReplyTo : Request → Reply → Type 0
IsReplyTo request reply = (reply.instance ≡ request.instance) × (reply.sequence ≡ request.sequence)

-- the reply is to the request that is pending
abbrev pub AnswersNext : Option Request → Reply → Type 0
AnswersNext None reply = ⊥
AnswersNext (Some request) reply = IsReplyTo request reply

-- the exchange of a request and its reply, on which this was given out
abbrev pub exchange : Request → Reply → List Emission → Exchange
exchange request reply emitted = giving request.ask reply.say emitted

-- the next request: the client's own, with the number after those of the exchanges, and one that they allow
pub record IsNextRequest (task : Task) (Allows : Trace → Ask → Type 0) (es : Trace) (request : Request) : Type 0 where
  pub instance : request.instance ≡ task.who.instance
  pub sequence : request.sequence ≡ length es + 1
  pub may : May task es request.ask
  pub permitted : IsPermitted Allows es request.ask

-- a client that stands where a trace leaves it: the trace obeys the order and the job's rule, and so does what is pending; where nothing is, there
-- is an outcome, and no lock is held unless the numbers are spent; an outcome comes only where it may, and stands beside no pending request but the
-- unlock, which has one beside it. A reply on which a job ends at once ended it where it came. Where nothing is pending and there is no outcome, it may
-- want input.
pub record IsObedientWith (task : Task) (Allows : Trace → Ask → Type 0) (Gives : Trace → Exchange → Type 0) (Own : Trace → Outcome → Type 0)
    (Wanting : Trace → Type 0) (next : Option Request) (outcome : Option Outcome) (es : Trace) : Type 0 where
  pub obeys : Obeys task Allows Gives es
  pub pending : (request : Request) → next ≡ Some request → IsNextRequest task Allows es request
  pub settled : next ≡ None → outcome ≡ None → Wanting es
  pub concluded : (o : Outcome) → outcome ≡ Some o → MayConclude (upto task.versions) task.notes Own (before_unlock es) o
  pub released : next ≡ None → outcome ≢ None → (token : Token) → Holds task token es → NumbersAreSpent es
  pub heeded : AreHeeded (upto task.versions) task.notes outcome (before_unlock es)
  pub beside : (request : Request) → next ≡ Some request → outcome ≢ None → IsUnlock request.ask
  pub ending : (request : Request) → next ≡ Some request → IsUnlock request.ask → outcome ≢ None

-- the same by a job's rule and who asks
abbrev pub IsObedientBy : Rule → Asker → Option Request → Option Outcome → Trace → Type 0
IsObedientBy rule who next outcome es = IsObedientWith (task_under rule who) rule.allows rule.gives rule.concludes rule.wanting next outcome es

-- a client that never wants input
abbrev pub IsObedient : Task → (Trace → Ask → Type 0) → (Trace → Exchange → Type 0) → (Trace → Outcome → Type 0) → Option Request → Option Outcome → Trace → Type 0
IsObedient task Allows Gives Own next outcome es = IsObedientWith task Allows Gives Own (λ fs. ⊥) next outcome es

-- a token that a client tells is that of its ticket; and where it was given one, and has no outcome yet, it tells it
pub record TellsToken (told : Option Token) (outcome : Option Outcome) (es : Trace) : Type 0 where
  pub given : (token : Token) → told ≡ Some token → Exchanged es Ask.Ticket (Say.Token token)
  pub tells : (token : Token) → outcome ≡ None → Exchanged es Ask.Ticket (Say.Token token) → told ≡ Some token

-- a request whose reply is taken without memory, whatever it says
abbrev pub IsSteady : Ask → Type 0
IsSteady Ask.Ticket = ⊤
IsSteady (Ask.Lock row) = ⊤
IsSteady (Ask.Unlock token) = ⊤
IsSteady _ = ⊥
