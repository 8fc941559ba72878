-- A job that is brought to its end, by its own rule, over connections that are made one after another.
use Rattle.std.specs.Prelude.{◌≡◌, ◌≢◌, ◌≤◌, ◌⊎◌, ◌+◌, ◌++◌, ◌∷◌, [], ⊤, ℕ, Bool, true, List, length, Option, Some, None, Result, Ok, Err}
use Rattle.repo_name.specs.declared.names.Instance.{Instance}
use Rattle.repo_name.specs.declared.tokens.Token.{Token}
use Rattle.repo_wire.specs.declared.messages.Ask.{Ask}
use Rattle.repo_wire.specs.declared.messages.Request.{Request}
use Rattle.repo_wire.specs.declared.messages.Say.{Say}
use Rattle.repo_store.specs.Channels.{said_in}
use Rattle.repo_session.specs.declared.driving.DriveError.{DriveError}
use Rattle.repo_session.specs.declared.emissions.Emission.{Emission}
use Rattle.repo_session.specs.declared.outcomes.Outcome.{Outcome}
use Rattle.repo_session.specs.Askers.{Asker}
use Rattle.repo_session.specs.Clients.{IsObedientBy}
use Rattle.repo_session.specs.Jobs.{Rule}
use Rattle.repo_session.specs.Sinks.{IsHandedOn}
use Rattle.repo_session.specs.Talks.{Talk, Said, IsTurn, AreNumbered, IsHeard, DriveCause, WritesBy, first_carried, frames_of, sent_in, trace_of}
use Rattle.repo_session.specs.Traces.{Each, Exchanged, Trace}
use Rattle.repo_dial.specs.Dialing.{Asking, Call, Connections, Try, Missed, Turned, Carried, GoesInTurn, IsAsking, IsBehind, IsStopped, Meets, talk_over, first_told, AreAtOneStore, AreDialed, is_cut}
use Rattle.repo_dial.specs.declared.again.TryError.{TryError}

-- what is asked for behind a job is the end of the lock of its own ticket, with the instance, and a number that no request before it had: the one after theirs
abbrev pub EndsLockOf : Instance → Trace → Option Asking → Type 0
EndsLockOf instance es None = ⊤
EndsLockOf instance es (Some asking) = (token : Token) × (asking.request.ask ≡ Ask.Unlock token) × Exchanged es Ask.Ticket (Say.Token token)
    × (asking.request.instance ≡ instance) × (asking.request.sequence ≡ length es + 1)

-- How driving a job ended: at its end nothing is pending, and all was read and written; else this error's cause was there, and so much of the request that is pending
-- was sent as goes with it.
abbrev pub DrivesTo : Option DriveError → Said → Option Request → List ℕ → Type 0
DrivesTo None said next bytes = (next ≡ None) × (said.more ≡ []) × (bytes ≡ frames_of (sent_in said.talk))
DrivesTo (Some error) said next bytes = DriveCause error said next × WritesBy error (Some []) (sent_in said.talk) next (Some bytes)

-- where a request is pending and the ticket was given, something was asked for
abbrev pub IsGivenBack : Trace → Option Request → Option Asking → Type 0
IsGivenBack es None farewell = ⊤
IsGivenBack es (Some request) farewell = (token : Token) → Exchanged es Ask.Ticket (Say.Token token) → farewell ≢ None

-- behind it nothing was asked for, but where the sink took no more the end of the job's own lock
abbrev pub LeavesBy : Option DriveError → Instance → Trace → Option Request → Call → Type 0
LeavesBy (Some DriveError.Sink) instance es next call = IsBehind call.left call.farewell × EndsLockOf instance es call.farewell × IsGivenBack es next call.farewell
LeavesBy _ instance es next call = call.farewell ≡ None

-- A job was brought on over a connection, by its rule, to its end or to this error: what was said went over it in turn; each request has the asker's instance
-- and the number after those before it; what was pending before went first; and the job stands, by its rule, at the trace of that and of all that was said before.
pub record BroughtOn (rule : Rule) (who : Asker) (earlier : Talk) (before : Option Request) (call : Call) (error : Option DriveError) (next : Option Request) (outcome : Option Outcome) : Type 0 where
  pub over : GoesInTurn call next
  pub heard : IsHeard call.said
  pub turns : Each IsTurn call.said.talk
  pub numbered : AreNumbered who.instance (length (trace_of earlier)) call.said.talk
  pub drives : DrivesTo error call.said next (said_in call.passages)
  pub first : first_carried (sent_in call.said.talk) next ≡ before
  pub obeyed : IsObedientBy rule who next outcome (trace_of (call.said.talk ++ earlier))
  pub leaves : LeavesBy error who.instance (trace_of (call.said.talk ++ earlier)) next call

-- What a try behind earlier ones came to, from one pending request to another: no connection could be had; what its store said to the ask for its config isn't
-- what the job's store says, nor was it asked for more; or the job was brought on over it, to its end, or to an error.
abbrev pub TriedBy : Rule → Asker → List Try → Option Request → Try → Result Outcome TryError → Option Request → Type 0
TriedBy rule who earlier before Missed result next = (result ≡ Err TryError.NotReached) × (next ≡ before)
TriedBy rule who earlier before (Turned asking) result next =
    (error : TryError) × (result ≡ Err error) × Meets (first_told earlier) asking.answer (Err error) (first_told earlier) × (next ≡ before)
TriedBy rule who earlier before (Carried asking call) (Ok outcome) next = BroughtOn rule who (talk_over earlier) before call None next (Some outcome)
TriedBy rule who earlier before (Carried asking call) (Err error) next =
    (cause : DriveError) × (error ≡ TryError.Drive cause) × ((outcome : Option Outcome) × BroughtOn rule who (talk_over earlier) before call (Some cause) next outcome)

-- each of these tries, the newest first, was cut off: another connection may be tried only behind one that ended so
abbrev pub AreCutOff : Rule → Asker → Option Request → List Try → Option Request → Type 0
AreCutOff rule who begun [] next = next ≡ begun
AreCutOff rule who begun (try ∷ tries) next =
    (before : Option Request) × AreCutOff rule who begun tries before × ((error : TryError) × TriedBy rule who tries before try (Err error) next × (is_cut error ≡ true))

-- before the job's own requests nothing went over a connection but its ask for the store's config
abbrev pub AsksConfig : Instance → Asking → Type 0
AsksConfig instance asking = (asking.request ≡ record { instance = instance; sequence = 0; ask = Ask.Config }) × IsAsking asking

abbrev pub IsBegunBy : Instance → Try → Type 0
IsBegunBy instance Missed = ⊤
IsBegunBy instance (Turned asking) = AsksConfig instance asking
IsBegunBy instance (Carried None call) = ⊤
IsBegunBy instance (Carried (Some asking) call) = AsksConfig instance asking × (asking.left ≡ call.came)

-- A job was brought on by its rule over connections that were made one after another, so many at most after the first, and this came of it: the last try came to
-- it, and those before it were cut off; where it was cut off too, no more were left. The rules hold of all that was said as over one connection, and all were to
-- one store.
pub record Brought (rule : Rule) (who : Asker) (result : Result Outcome TryError) (retry : ℕ) (coming after : Connections) : Type 0 where
  pub cut : List Try
  pub last : Try
  pub few : length cut ≤ retry
  pub spent : (error : TryError) → result ≡ Err error → is_cut error ≡ true → length cut ≡ retry
  pub dialed : AreDialed coming (last ∷ cut) after
  pub begun_by : Each (IsBegunBy who.instance) (last ∷ cut)
  pub store : AreAtOneStore retry (last ∷ cut)
  pub begun : Option Request
  pub waiting : Option Request
  pub next : Option Request
  pub before : AreCutOff rule who begun cut waiting
  pub came : TriedBy rule who cut waiting last result next

-- and what it gave out over all of them was handed on to a sink
pub record BroughtInto {F : Type 0} (Called : F → Emission → Bool → F → Type 0) (old : F) (rule : Rule) (who : Asker) (result : Result Outcome TryError) (retry : ℕ) (coming after : Connections) (new : F) : Type 0 where
  pub brought : Brought rule who result retry coming after
  pub handed : IsHandedOn Called (IsStopped result) old (talk_over (brought.last ∷ brought.cut)) new

-- it was brought to its end so, with this outcome by its own rules
abbrev pub Ended : Rule → Asker → Outcome → ℕ → Connections → Connections → Type 0
Ended rule who outcome retry coming after = Brought rule who (Ok outcome) retry coming after

-- however far it was brought: no connection was asked for, or it was brought on so, whatever came of it
abbrev pub Obeyed : Rule → Asker → ℕ → Connections → Connections → Type 0
Obeyed rule who retry coming after = (after ≡ coming) ⊎ ((result : Result Outcome TryError) × Brought rule who result retry coming after)
