-- Where a session stands, and what it does by itself.
use Rattle.std.specs.Prelude.{◌≡◌, ◌≢◌, ◌⊎◌, ◌+◌, [], ⊤, ℕ, Bool, true, false, cond, List, length, Option, Some, None, ◌∷◌}
use Rattle.repo_name.specs.declared.kinds.Kind.{Kind}
use Rattle.repo_name.specs.declared.names.Name.{Name}
use Rattle.repo_name.specs.declared.rows.LockRow.{LockRow}
use Rattle.repo_name.specs.declared.tokens.Token.{Token}
use Rattle.repo_wire.specs.declared.messages.Ask.{Ask}
use Rattle.repo_wire.specs.declared.messages.Code.{Code}
use Rattle.repo_wire.specs.declared.messages.Request.{Request}
use Rattle.repo_wire.specs.declared.messages.Say.{Say}
use Rattle.repo_session.specs.declared.emissions.Emission.{Emission}
use Rattle.repo_session.specs.declared.jobs.Step.{Step}
use Rattle.repo_session.specs.declared.lines.Line.{Line}
use Rattle.repo_session.specs.declared.outcomes.End.{End}
use Rattle.repo_session.specs.declared.outcomes.Outcome.{Outcome}
use Rattle.repo_session.specs.declared.sessions.Head.{Head}
use Rattle.repo_session.specs.declared.sessions.Session.{Session}
use Rattle.repo_session.specs.Askers.{Asker, Holding}
use Rattle.repo_session.specs.Clients.{IsNextRequest, exchange, IsReplyTo}
use Rattle.repo_session.specs.Ends.{AreHeeded, CausedBy, MayConclude, NumbersAreSpent, IsUnwelcome, before_unlock}
use Rattle.repo_session.specs.Jobs.{Rule, task_under, known_under}
use Rattle.repo_session.specs.Lines.{IsSentOnLine, IsFinished, IsClosed, IsIdle}
use Rattle.repo_session.specs.Order.{ticketed, locked, lock_row, Holds, IsWorking, Obeys, IsWork}
use Rattle.repo_session.specs.Traces.{Trace, giving}
use Rattle.repo_wire.specs.declared.messages.Reply.{Reply}

-- what is known where this is pending: while the session opens, the job hasn't begun; while the job works, what it knows; at the end, the outcome
abbrev pub KnowsAt : Rule → Holding → Option LockRow → Type 0 → (Ask → Trace → Type 0) → Option Outcome → Ask → Trace → Type 0
KnowsAt rule holding lock Fresh Knows outcome Ask.Ticket es = Fresh × (outcome ≡ None) × (lock ≡ Some (lock_row (task_under rule holding.who) (record { 0 = 0 })))
KnowsAt rule holding lock Fresh Knows outcome (Ask.Lock row) es = Fresh × (outcome ≡ None) × (es ≡ ticketed holding.token)
KnowsAt rule holding lock Fresh Knows outcome Ask.Config es = Fresh × (outcome ≡ None) × (es ≡ locked (task_under rule holding.who) holding.token)
KnowsAt rule holding lock Fresh Knows outcome (Ask.Unlock token) es = (o : Outcome) × (outcome ≡ Some o) × MayConclude (known_under rule holding.who) rule.notes rule.concludes es o
KnowsAt rule holding lock Fresh Knows outcome (Ask.Refresh token time) es = ⊥
KnowsAt rule holding lock Fresh Knows outcome Ask.Locks es = ⊥
KnowsAt rule holding lock Fresh Knows outcome ask es = IsWorking (task_under rule holding.who) holding.token es × (outcome ≡ None) × Knows ask es

-- a request is pending
pub record SessionWaits (rule : Rule) (holding : Holding) (lock : Option LockRow) (Fresh : Type 0) (Knows : Ask → Trace → Type 0) (line : Line) (request : Request) (es : Trace) : Type 0 where
  pub next : IsNextRequest (task_under rule holding.who) rule.allows es request
  pub counted : line.sequence ≡ length es + 1
  pub knows : KnowsAt rule holding lock Fresh Knows line.outcome request.ask es

-- nothing is pending: there is an outcome, and no lock is held unless the numbers are spent
pub record SessionRests (rule : Rule) (holding : Holding) (line : Line) (es : Trace) : Type 0 where
  pub outcome : Outcome
  pub there : line.outcome ≡ Some outcome
  pub concluded : MayConclude (known_under rule holding.who) rule.notes rule.concludes (before_unlock es) outcome
  pub released : (token : Token) → Holds (task_under rule holding.who) token es → NumbersAreSpent es

-- nothing is pending, and the job wants input: the lock is held
pub record SessionWants (rule : Rule) (holding : Holding) (Wants : Trace → Type 0) (line : Line) (es : Trace) : Type 0 where
  pub working : IsWorking (task_under rule holding.who) holding.token es
  pub none : line.outcome ≡ None
  pub counted : line.sequence ≡ length es
  pub may : rule.wanting es
  pub knows : Wants es

-- by what is pending
abbrev pub SessionStands : Rule → Holding → Option LockRow → Type 0 → (Ask → Trace → Type 0) → (Trace → Type 0) → Line → Option Request → Trace → Type 0
SessionStands rule holding lock Fresh Knows Wants line (Some request) es = SessionWaits rule holding lock Fresh Knows line request es
SessionStands rule holding lock Fresh Knows Wants line None es = SessionRests rule holding line es ⊎ SessionWants rule holding Wants line es

-- a session that stands where a trace leaves it
pub record SessionAt (rule : Rule) (holding : Holding) (lock : Option LockRow) (Fresh : Type 0) (Knows : Ask → Trace → Type 0) (Wants : Trace → Type 0) (line : Line) (es : Trace) : Type 0 where
  pub instance : line.instance ≡ holding.who.instance
  pub obeys : Obeys (task_under rule holding.who) rule.allows rule.gives es
  pub heeded : AreHeeded (known_under rule holding.who) rule.notes line.outcome (before_unlock es)
  pub stands : SessionStands rule holding lock Fresh Knows Wants line line.next es

-- where the reply is a refusal, or of the wrong sort, it is a cause of this end
abbrev pub SessionEndsBy : Ask → Say → End → Type 0
SessionEndsBy ask say end = (say ≡ Say.Refused Code.Dead → end ≡ End.Fenced) × (IsUnwelcome ask say → (known : ℕ) → CausedBy known ask say end)

-- ---- over the code's own types

-- who asks, and what the job was handed
pub record Given (H : Type 0) : Type 0 where
  pub who : Asker
  pub handed : H

-- what was given out on the last reply: what the job gave, where the job took it
abbrev pub given_by : {J : Type 0} → (J → List Emission) → Session J → List Emission
given_by given s = cond s.told (given s.job) []

-- the code's session stands where the trace leaves it
abbrev pub FitsWanting : {J H : Type 0} → (J → H) → (H → Rule) → (J → Type 0) → (J → Ask → Trace → Type 0) → (J → Trace → Type 0) → Session J → Trace → Type 0
FitsWanting handed rule fresh knows wants s es = SessionAt (rule (handed s.job)) s.head.holder s.head.lock (fresh s.job) (knows s.job) (wants s.job) s.head.line es

-- where its job never wants input
abbrev pub FitsSession : {J H : Type 0} → (J → H) → (H → Rule) → (J → Type 0) → (J → Ask → Trace → Type 0) → Session J → Trace → Type 0
FitsSession handed rule fresh knows s es = FitsWanting handed rule fresh knows (λ j fs. ⊥) s es

-- all but the line stays
pub record KeepsLock (old new : Head) : Type 0 where
  pub holder : new.holder ≡ old.holder
  pub lock : new.lock ≡ old.lock

-- the job ends so: with an unlock, but without one where the token is dead
pub record Leaves (old : Head) (end : End) (new : Head) : Type 0 where
  pub fenced : end ≡ End.Fenced → IsClosed old.line (Outcome.Ended end) new.line
  pub other : end ≢ End.Fenced → IsFinished old.line (Outcome.Ended end) old.holder.token new.line

-- what is sent on a job's step, of whose reply this would be the end
abbrev pub FollowsStep : Head → Step → End → Head → Type 0
FollowsStep old (Step.Ask ask) end new = IsSentOnLine old.line ask new.line
FollowsStep old (Step.Finish outcome) end new = IsFinished old.line outcome old.holder.token new.line
FollowsStep old Step.Want end new = IsIdle old.line new.line
FollowsStep old Step.Away end new = Leaves old end new

-- whether the job took the reply
abbrev pub took : Step → Bool
took Step.Away = false
took _ = true

-- ---- what a client shows of its session

abbrev pub who_in : {J : Type 0} → Session J → Asker
who_in s = s.head.holder.who

abbrev pub next_in : {J : Type 0} → Session J → Option Request
next_in s = s.head.line.next

abbrev pub ended_in : {J : Type 0} → Session J → Option Outcome
ended_in s = s.head.line.outcome

-- the token of its ticket, where the ticket isn't what is pending
abbrev pub token_beside : Token → Ask → Option Token
token_beside token Ask.Ticket = None
token_beside token _ = Some token

-- the token that a session tells: that of its ticket, until it has an outcome; where nothing is pending, it wants input
abbrev pub token_told : Token → Option Outcome → Option Request → Option Token
token_told token (Some outcome) next = None
token_told token None None = Some token
token_told token None (Some request) = token_beside token request.ask

abbrev pub token_in : {J : Type 0} → Session J → Option Token
token_in s = token_told s.head.holder.token s.head.line.outcome s.head.line.next

-- ---- how a session takes a reply: where it fitted a trace, it fits that with one exchange more

-- what was said to the request for the config
abbrev pub TakesConfig : {J H : Type 0} → (J → H) → (H → Rule) → (J → Type 0) → (J → Ask → Trace → Type 0) → (J → Trace → Type 0) → (J → List Emission) → Session J → Say → End → Session J → Type 0
TakesConfig handed rule fresh knows wants given old say end new = (request : Request) (es : Trace) → old.head.line.next ≡ Some request → request.ask ≡ Ask.Config
    → SessionEndsBy Ask.Config say end → FitsWanting handed rule fresh knows wants old es → FitsWanting handed rule fresh knows wants new (giving request.ask say (given_by given new) ∷ es)

-- what was said to a request of its work
abbrev pub TakesWork : {J H : Type 0} → (J → H) → (H → Rule) → (J → Type 0) → (J → Ask → Trace → Type 0) → (J → Trace → Type 0) → (J → List Emission) → Session J → Say → End → Session J → Type 0
TakesWork handed rule fresh knows wants given old say end new = (request : Request) (es : Trace) → old.head.line.next ≡ Some request → IsWork request.ask
    → SessionEndsBy request.ask say end → FitsWanting handed rule fresh knows wants old es → FitsWanting handed rule fresh knows wants new (giving request.ask say (given_by given new) ∷ es)

-- a reply to the request that is pending
abbrev pub TakesReply : {J H : Type 0} → (J → H) → (H → Rule) → (J → Type 0) → (J → Ask → Trace → Type 0) → (J → Trace → Type 0) → (J → List Emission) → Session J → Reply → Session J → Type 0
TakesReply handed rule fresh knows wants given old reply new = (request : Request) → old.head.line.next ≡ Some request → IsReplyTo request reply
    → (es : Trace) → FitsWanting handed rule fresh knows wants old es → FitsWanting handed rule fresh knows wants new (exchange request reply (given_by given new) ∷ es)

-- ---- how a session goes ahead of a reply

-- it puts an object
abbrev pub IsPut : Ask → Type 0
IsPut ask = (token : Token) × (k : Kind) × (n : Name) × (x : List ℕ) × (ask ≡ Ask.Put token k n x)

-- this request is pending, and there is no outcome
abbrev pub pending_line : Holding → Request → Line
pending_line holding request = record { instance = holding.who.instance; sequence = request.sequence; next = Some request; outcome = None }

-- a put was asked for after the trace, and its reply is awaited, whatever else is known by now
pub record IsAwaited (rule : Rule) (holding : Holding) (request : Request) (es : Trace) : Type 0 where
  pub put : IsPut request.ask
  pub at : (lock : Option LockRow) → SessionAt rule holding lock ⊤ (λ ask fs. ⊤) (λ fs. ⊥) (pending_line holding request) es

-- it was supposed that this put, which was pending, is done: the reply to it is awaited, and were it that, the session would stand where it leads
pub record Supposes {J H : Type 0} (handed : J → H) (rule : H → Rule) (fresh : J → Type 0) (knows : J → Ask → Trace → Type 0) (wants : J → Trace → Type 0) (given : J → List Emission) (old : Session J) (request : Request) (new : Session J) : Type 0 where
  pub pending : next_in old ≡ Some request
  pub unended : ended_in old ≡ None
  pub put : IsPut request.ask
  pub awaits : (es : Trace) → FitsWanting handed rule fresh knows wants old es → IsAwaited (rule (handed new.job)) new.head.holder request es
  pub fits : (es : Trace) → FitsWanting handed rule fresh knows wants old es → FitsWanting handed rule fresh knows wants new (giving request.ask Say.Done (given_by given new) ∷ es)

-- ---- what stays

-- it fits each trace that it fitted
abbrev pub StaysFitting : {J H : Type 0} → (J → H) → (H → Rule) → (J → Type 0) → (J → Ask → Trace → Type 0) → (J → Trace → Type 0) → Session J → Session J → Type 0
StaysFitting handed rule fresh knows wants old new = (es : Trace) → FitsWanting handed rule fresh knows wants old es → FitsWanting handed rule fresh knows wants new es

-- it does so while a request of its work is pending
abbrev pub StaysAtWork : {J H : Type 0} → (J → H) → (H → Rule) → (J → Type 0) → (J → Ask → Trace → Type 0) → (J → Trace → Type 0) → Session J → Session J → Type 0
StaysAtWork handed rule fresh knows wants old new = (request : Request) (es : Trace) → old.head.line.next ≡ Some request → IsWork request.ask → FitsWanting handed rule fresh knows wants old es → FitsWanting handed rule fresh knows wants new es

-- an outcome stays
abbrev pub StaysEnded : {J H : Type 0} → (J → H) → (H → Rule) → (J → Type 0) → (J → Ask → Trace → Type 0) → (J → Trace → Type 0) → Session J → Session J → Type 0
StaysEnded handed rule fresh knows wants old new = (es : Trace) (outcome : Outcome) → FitsWanting handed rule fresh knows wants old es → old.head.line.outcome ≡ Some outcome → new.head.line.outcome ≡ Some outcome
