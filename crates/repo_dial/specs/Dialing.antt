-- What is said over connections that are made one after another.
use Rattle.std.specs.Prelude.{◌≡◌, ◌≢◌, ◌<◌, ◌≤◌, ◌↔◌, ◌+◌, ◌++◌, ◌∷◌, [], ⊤, ℕ, Bool, true, false, List, length, map, Option, Some, None, IfSome, option_map, Result, Ok, Err}
use Rattle.repo_name.specs.declared.names.Instance.{Instance}
use Rattle.repo_name.specs.declared.tokens.Token.{Token}
use Rattle.repo_wire.specs.declared.messages.Ask.{Ask}
use Rattle.repo_wire.specs.declared.messages.Reply.{Reply}
use Rattle.repo_wire.specs.declared.messages.Request.{Request}
use Rattle.repo_wire.specs.declared.messages.Say.{Say}
use Rattle.repo_store.specs.Channels.{Passage, heard_in, said_in}
use Rattle.repo_session.specs.declared.driving.DriveError.{DriveError}
use Rattle.repo_session.specs.declared.emissions.Emission.{Emission}
use Rattle.repo_session.specs.Askers.{Asker}
use Rattle.repo_session.specs.Sinks.{IsHandedOn}
use Rattle.repo_session.specs.Talks.{Talk, Said, AskGives, Drives, Went}
use Rattle.repo_session.specs.Traces.{Each, Exchanged, Trace}
use Rattle.repo_session.specs.Turns.{AreAskedInTurn, IsAskedFirst, asked_in}
use Rattle.repo_dial.specs.Ends.{ConnectionEnds, GoesBy}
use Rattle.repo_dial.specs.declared.again.TryError.{TryError}
use Rattle.repo_dial.specs.declared.peers.Acquaintance.{Acquaintance}

-- connections that are made one after another: those that will be had, one for each time that one is asked for, or none; and those that were had and given
-- back, each as it was left, the newest first; where each of these is known
pub record Connections : Type 0 where
  pub coming : Option (List (Option ConnectionEnds))
  pub had : Option (List ConnectionEnds)

-- those of which nothing is known
abbrev pub unknown : Connections
unknown = record { coming = None; had = None }

-- one that was asked for is the next of those that were coming
abbrev pub IsNext : Option (List (Option ConnectionEnds)) → Option ConnectionEnds → Option (List (Option ConnectionEnds)) → Type 0
IsNext None dialed after = ⊤
IsNext (Some []) dialed after = (dialed ≡ None) × (after ≡ Some [])
IsNext (Some (next ∷ coming)) dialed after = (dialed ≡ next) × (after ≡ Some coming)

abbrev pub Dials : Connections → Option ConnectionEnds → Connections → Type 0
Dials old dialed new = IsNext old.coming dialed new.coming × (new.had ≡ old.had)

-- where it is known in the end how those that were had were left, it was before, and this one was left so; and it is known of the first one that is given
-- back, where it was known that none was so far
abbrev pub IsLeft : Option (List ConnectionEnds) → ConnectionEnds → Option (List ConnectionEnds) → Type 0
IsLeft had left None = had ≢ Some []
IsLeft None left (Some after) = ⊥
IsLeft (Some had) left (Some after) = after ≡ left ∷ had

-- one was given back
abbrev pub HangsUp : Connections → ConnectionEnds → Connections → Type 0
HangsUp old left new = (new.coming ≡ old.coming) × IsLeft old.had left new.had

-- those of a connection that is there already: it, and none once it was had; and it, once it was given back, where that is known
abbrev pub only : {E : Type 0} → (E → ConnectionEnds) → Option E → List ConnectionEnds
only known None = []
only known (Some connection) = known connection ∷ []

abbrev pub once : {E : Type 0} → (E → ConnectionEnds) → Option E → Option (Option E) → Connections
once known ready left = record { coming = Some (map Some (only known ready)); had = option_map (only known) left }

-- ---- what is said over a connection

-- one request was asked over a connection: what went over it, what was said by that, what came of it, and the ends before and after it
pub record Asking : Type 0 where
  pub came : ConnectionEnds
  pub request : Request
  pub passages : List Passage
  pub said : Said
  pub answer : Result Reply DriveError
  pub left : ConnectionEnds

-- nothing else went over it; and whenever something was heard, the request had been said whole, and the reply to it wasn't there yet
pub record IsAsking (a : Asking) : Type 0 where
  pub goes : GoesBy a.came a.passages a.left
  pub in_turn : IsAskedFirst [] [] a.request a.passages
  pub bytes : a.said.bytes ≡ heard_in a.passages
  pub gives : AskGives a.request a.answer a.said (Some []) (Some (said_in a.passages))

-- from these ends to those one request was asked, and this came of it
abbrev pub AsksOnce : Request → ConnectionEnds → Result Reply DriveError → ConnectionEnds → Type 0
AsksOnce request came answer left =
    (passages : List Passage) × (said : Said) × IsAsking (record { came = came; request = request; passages = passages; said = said; answer = answer; left = left })

-- a client was driven over a connection: its ends before that, what went over it, what was said by that, its ends after that, and the unlock that was
-- asked for behind it, if one was
pub record Call : Type 0 where
  pub came : ConnectionEnds
  pub passages : List Passage
  pub said : Said
  pub left : ConnectionEnds
  pub farewell : Option Asking

-- nothing else went over it; and whenever something was heard, one of the client's requests, of which this one is pending in the end, had been said whole
-- behind those before it, these had been answered, and it hadn't
pub record GoesInTurn (call : Call) (next : Option Request) : Type 0 where
  pub goes : GoesBy call.came call.passages call.left
  pub in_turn : AreAskedInTurn [] [] (asked_in call.said.talk next) call.passages
  pub bytes : call.said.bytes ≡ heard_in call.passages

-- a try: no connection could be had; one over which the store was asked for its config, and wasn't the job's; or one over which the client was
-- driven, after its store was asked for its config, if it was
pub data Try : Type 0 where
  Missed : Try
  Turned : Asking → Try
  Carried : Option Asking → Call → Try

abbrev pub dialed_in : Try → Option ConnectionEnds
dialed_in Missed = None
dialed_in (Turned asking) = Some asking.came
dialed_in (Carried None call) = Some call.came
dialed_in (Carried (Some asking) call) = Some asking.came

abbrev pub talk_in : Try → Talk
talk_in Missed = []
talk_in (Turned asking) = []
talk_in (Carried asking call) = call.said.talk

-- what a client said over the connections of some tries, as if it was one talk: the newest first, as the tries are
abbrev pub talk_over : List Try → Talk
talk_over [] = []
talk_over (try ∷ tries) = talk_in try ++ talk_over tries

-- the ends of a connection behind an ask, if there was one
abbrev pub ends_behind : ConnectionEnds → Option Asking → ConnectionEnds
ends_behind came None = came
ends_behind came (Some asking) = asking.left

-- as its connection was left
abbrev pub left_in : Try → Option ConnectionEnds
left_in Missed = None
left_in (Turned asking) = Some asking.left
left_in (Carried asking call) = Some (ends_behind call.left call.farewell)

abbrev pub IsGivenBack : Connections → Option ConnectionEnds → Connections → Type 0
IsGivenBack old None new = new ≡ old
IsGivenBack old (Some left) new = HangsUp old left new

-- the connection of a try was the next one, and was given back as it was left
abbrev pub IsDialed : Connections → Try → Connections → Type 0
IsDialed old try new = (mid : Connections) × Dials old (dialed_in try) mid × IsGivenBack mid (left_in try) new

-- so were those of all tries
abbrev pub AreDialed : Connections → List Try → Connections → Type 0
AreDialed old [] new = new ≡ old
AreDialed old (try ∷ tries) new = (mid : Connections) × AreDialed old tries mid × IsDialed mid try new

-- ---- one store for one job

-- the ask for the config that goes before a client's own requests: its number is 0, which none of these has
abbrev pub config_request : Request → Request
config_request next = record { instance = next.instance; sequence = 0; ask = Ask.Config }

-- a store told this config
abbrev pub Tells : Asking → List ℕ → Type 0
Tells asking config = (reply : Reply) × (asking.answer ≡ Ok reply) × (reply.say ≡ Say.Bytes config)

-- the config is the one that is known, or the first one
abbrev pub Recognizes : Option (List ℕ) → List ℕ → Result (Unit {0}) TryError → Option (List ℕ) → Type 0
Recognizes None config result after = (result ≡ Ok tt) × (after ≡ Some config)
Recognizes (Some known) config result after = (after ≡ Some known) × (result ≡ Ok tt → config ≡ known) × (config ≡ known → result ≡ Ok tt) × (config ≢ known → result ≡ Err TryError.OtherStore)

-- what was said to the ask for the config
abbrev pub MeetsSay : Option (List ℕ) → Say → Result (Unit {0}) TryError → Option (List ℕ) → Type 0
MeetsSay known (Say.Bytes config) result after = Recognizes known config result after
MeetsSay known (Say.Refused code) result after = (result ≡ Err (TryError.Refused code)) × (after ≡ known)
MeetsSay known _ result after = (result ≡ Err TryError.BadReply) × (after ≡ known)

-- what came of the ask for the config
abbrev pub Meets : Option (List ℕ) → Result Reply DriveError → Result (Unit {0}) TryError → Option (List ℕ) → Type 0
Meets known (Ok reply) result after = MeetsSay known reply.say result after
Meets known (Err error) result after = (result ≡ Err (TryError.Drive error)) × (after ≡ known)

-- the store of a try is the one with this config, where stores are asked for it: the client says nothing to one that wasn't asked, and no exchange of the client
-- stands at another
abbrev pub IsAtStore : Bool → List ℕ → Try → Type 0
IsAtStore asks config Missed = ⊤
IsAtStore asks config (Turned asking) = asks ≡ true
IsAtStore asks config (Carried None call) = asks ≡ true → (call.said.talk ≡ []) × (said_in call.passages ≡ []) × (call.farewell ≡ None)
IsAtStore asks config (Carried (Some asking) call) = (asks ≡ true) × Tells asking config

-- the config that was told to an ask
abbrev pub config_in : Say → Option (List ℕ)
config_in (Say.Bytes config) = Some config
config_in _ = None

abbrev pub config_of : Result Reply DriveError → Option (List ℕ)
config_of (Ok reply) = config_in reply.say
config_of (Err error) = None

-- the config that was told in a try
abbrev pub config_told : Try → Option (List ℕ)
config_told Missed = None
config_told (Turned asking) = config_of asking.answer
config_told (Carried None call) = None
config_told (Carried (Some asking) call) = config_of asking.answer

-- the one that was told before, or else this one
abbrev pub or_else : Option (List ℕ) → Option (List ℕ) → Option (List ℕ)
or_else None told = told
or_else (Some before) told = Some before

-- the config that was told first over some tries, of which the newest is the first
abbrev pub first_told : List Try → Option (List ℕ)
first_told [] = None
first_told (try ∷ tries) = or_else (first_told tries) (config_told try)

-- All tries of a job are at one store: just where more than one connection may be made stores are asked for their configs, and then nothing is said over any
-- before its store was; and the one store is the one whose config was told first.
abbrev pub AreAtOneStore : ℕ → List Try → Type 0
AreAtOneStore retry tries = (asks : Bool) × (config : List ℕ) × ((asks ≡ true) ↔ (0 < retry)) × Each (IsAtStore asks config) tries × IfSome (first_told tries) (λ first. config ≡ first)

-- ---- the end of a lock that isn't gone on with

-- the token whose lock is to be ended: that of the unlock that is pending, or else the one that the client tells
abbrev pub token_to_end : Ask → Option Token → Option Token
token_to_end (Ask.Unlock token) told = Some token
token_to_end _ told = told

-- the unlock of a token, in the place of a request that is pending
abbrev pub unlock_in_place : Request → Token → Request
unlock_in_place next token = record { instance = next.instance; sequence = next.sequence; ask = Ask.Unlock token }

-- the unlock that a client asks for in the place of what is pending
abbrev pub farewell_of : Option Request → Option Token → Option Request
farewell_of None told = None
farewell_of (Some next) told = option_map (λ token. unlock_in_place next token) (token_to_end next.ask told)

-- it was asked for, behind what was said before
abbrev pub IsFarewell : Option Request → ConnectionEnds → Option Asking → Type 0
IsFarewell None left farewell = farewell ≡ None
IsFarewell (Some request) left None = ⊥
IsFarewell (Some request) left (Some asking) = (asking.came ≡ left) × (asking.request ≡ request) × IsAsking asking

-- behind what was said before at most this was asked
abbrev pub IsBehind : ConnectionEnds → Option Asking → Type 0
IsBehind left None = ⊤
IsBehind left (Some asking) = (asking.came ≡ left) × IsAsking asking

-- where the sink took no more the lock is given back; after another error nothing is asked for
abbrev pub TakesLeave : Result ℕ DriveError → Option Request → Option Token → Call → Type 0
TakesLeave (Err DriveError.Sink) next told call = IsFarewell (farewell_of next told) call.left call.farewell
TakesLeave _ next told call = call.farewell ≡ None

-- it is an unlock of the token that the client was given, of this instance, with the number after those of all exchanges
abbrev pub EndsOwnLock : {C : Type 0} → Instance → (C → Trace → Type 0) → C → Option Asking → Type 0
EndsOwnLock instance Fits client None = ⊤
EndsOwnLock instance Fits client (Some asking) = (token : Token) × (asking.request.ask ≡ Ask.Unlock token)
    × ((es : Trace) → Fits client es → Exchanged es Ask.Ticket (Say.Token token) × (asking.request.instance ≡ instance) × (asking.request.sequence ≡ length es + 1))

-- ---- a client

-- what a driver is told of clients: the instance of their requests, by their job; where they stand; what is pending; and the token that they tell
pub record Driven (C J : Type 0) : Type 1 where
  pub own : J → Instance
  pub job : C → J
  pub fits : C → Trace → Type 0
  pub next : C → Option Request
  pub told : C → Option Token

-- the same, of the members of `Client`
abbrev pub driven_by : {C J : Type 0} → (J → Asker) → (C → J) → (C → Trace → Type 0) → (C → Option Request) → (C → Option Token) → Driven C J
driven_by who job fits next told = record { own = λ j. (who j).instance; job = job; fits = fits; next = next; told = told }

-- a client was driven over a connection, in turn, to this result
pub record DrivenOver {C J : Type 0} (d : Driven C J) (old : C) (call : Call) (result : Result ℕ DriveError) (new : C) : Type 0 where
  pub over : GoesInTurn call (d.next new)
  pub drives : Drives (d.own (d.job old)) d.fits d.next old result new call.said (Some []) (Some (said_in call.passages))
  pub same : d.job new ≡ d.job old
  pub leaves : TakesLeave result (d.next new) (d.told new) call
  pub ends : EndsOwnLock (d.own (d.job new)) d.fits new call.farewell

-- the store was asked for its config before the client, or it isn't asked, or nothing is pending
abbrev pub HasMet : Option Request → Acquaintance → Option Asking → Result (Unit {0}) TryError → Acquaintance → Type 0
HasMet next known None result after = (result ≡ Ok tt) × (after ≡ known) × (known.asks ≡ true → next ≡ None)
HasMet next known (Some asking) result after = (known.asks ≡ true) × (after.asks ≡ true) × (option_map config_request next ≡ Some asking.request) × IsAsking asking
    × Meets known.config asking.answer result after.config

-- what a driver gives, as a try gives it
abbrev pub as_try : Result ℕ DriveError → Result ℕ TryError
as_try (Ok n) = Ok n
as_try (Err error) = Err (TryError.Drive error)

-- it ended because the sink took no more
abbrev pub IsStopped : {T : Type 0} → Result T TryError → Type 0
IsStopped result = result ≡ Err (TryError.Drive DriveError.Sink)

-- what a try gives: there was no connection, and all is as before; its store isn't the job's, and the client is as before; or the client was driven
abbrev pub TryGives : {C J : Type 0} → Driven C J → Acquaintance → C → Try → Result ℕ TryError → C → Acquaintance → Type 0
TryGives d known old Missed result new after = (result ≡ Err TryError.NotReached) × (new ≡ old) × (after ≡ known)
TryGives d known old (Turned asking) result new after = (error : TryError) × (result ≡ Err error) × (new ≡ old) × HasMet (d.next old) known (Some asking) (Err error) after
TryGives d known old (Carried asking call) result new after =
    (driven : Result ℕ DriveError) × DrivenOver d old call driven new × (result ≡ as_try driven) × HasMet (d.next old) known asking (Ok tt) after
    × ((a : Asking) → asking ≡ Some a → a.left ≡ call.came)

-- an error after which the job may go on over another connection: there was none, or it ended, broke or brought what is no reply
abbrev pub is_cut : TryError → Bool
is_cut TryError.NotReached = true
is_cut (TryError.Drive DriveError.Read) = true
is_cut (TryError.Drive DriveError.Write) = true
is_cut (TryError.Drive DriveError.Malformed) = true
is_cut (TryError.Drive DriveError.Limit) = false
is_cut (TryError.Drive DriveError.Memory) = false
is_cut (TryError.Drive DriveError.Sink) = false
is_cut (TryError.Refused code) = false
is_cut TryError.BadReply = false
is_cut TryError.OtherStore = false

-- tries that all ended by such errors, the newest first, brought the client on
abbrev pub AreCut : {C J : Type 0} → Driven C J → Acquaintance → C → List Try → C → Acquaintance → Type 0
AreCut d known old [] new after = (new ≡ old) × (after ≡ known)
AreCut {C} d known old (try ∷ tries) new after =
    (mid : C) × (between : Acquaintance) × AreCut d known old tries mid between × ((error : TryError) × TryGives d between mid try (Err error) new after × (is_cut error ≡ true))

-- what driving a client over connections gives, where the first may be followed by so many more: the last try gave the result, and all before it
-- were cut off; before the first one no config was known, and just where more may be made stores are asked for it; the client went as over one connection, what it gave
-- out was handed on, and all were to one store; and where the last one was cut off too, no more were left
pub record DrivesAgain {C J F : Type 0} (d : Driven C J) (Called : F → Emission → Bool → F → Type 0) (retry : ℕ) (old : C) (from : F) (result : Result ℕ TryError) (new : C) (to : F) (coming after : Connections) : Type 0 where
  pub begun : Acquaintance
  pub known : Acquaintance
  pub ended : Acquaintance
  pub cut : List Try
  pub mid : C
  pub last : Try
  pub fresh : (begun.config ≡ None) × ((begun.asks ≡ true) ↔ (0 < retry))
  pub before : AreCut d begun old cut mid known
  pub gives : TryGives d known mid last result new ended
  pub dialed : AreDialed coming (last ∷ cut) after
  pub went : Went (d.own (d.job old)) d.fits old (talk_over (last ∷ cut)) new
  pub handed : IsHandedOn Called (IsStopped result) from (talk_over (last ∷ cut)) to
  pub store : AreAtOneStore retry (last ∷ cut)
  pub few : length cut ≤ retry
  pub spent : (error : TryError) → result ≡ Err error → is_cut error ≡ true → length cut ≡ retry
