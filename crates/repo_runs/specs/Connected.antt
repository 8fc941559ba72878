-- What is answered over connections, to clients of a world and to others, one after another or many at once, as a run of the world.
use Rattle.std.specs.Prelude.{◌≡◌, ◌≢◌, ◌⊎◌, ◌++◌, ◌∷◌, [], ℕ, false, List, Option, Some, None}
use Rattle.repo_wire.specs.declared.messages.Reply.{Reply}
use Rattle.repo_wire.specs.declared.messages.Request.{Request}
use Rattle.repo_store.specs.Serving.{Moment, Past, SomeServed, plain}
use Rattle.repo_store.specs.Stores.{Store}
use Rattle.repo_session.specs.Clients.{IsReplyTo, exchange}
use Rattle.repo_session.specs.Feeds.{Fed}
use Rattle.repo_session.specs.Askers.{asker}
use Rattle.repo_session.specs.Talks.{Said, Talk, Turn, AreNumbered, IsTurn, trace_of}
use Rattle.repo_session.specs.Traces.{Each, Trace, fed_in}
use Rattle.repo_session.specs.declared.versions.Versions.{Versions}
use Rattle.repo_feeding.specs.FedLaws.{IsFedClient}
use Rattle.repo_feeding.specs.Unfed.{unfed}
use Rattle.repo_session.specs.declared.outcomes.Outcome.{Outcome}
use Rattle.repo_hall.specs.Halls.{Hosted}
use Rattle.repo_hall.specs.Happenings.{Log, Brought, Answered, Given, Stay, all_asked, all_replies, no_stay, stay}
use Rattle.repo_hall.specs.Joined.{TalksAlong}
use Rattle.repo_runs.specs.Fed.{AreWelcomeTo, running, with_items}
use Rattle.repo_world.specs.Clients.{Client}
use Rattle.repo_world.specs.Duties.{IsDutiful}
use Rattle.repo_world.specs.Events.{Feeds, MayAnybodySend, Run, Takes}
use Rattle.repo_world.specs.World.{Message, World, Asked, IsOneOf, client_at, instance_of, started}
use Rattle.repo_world.specs.declared.events.Event.{Event}
use Rattle.repo_world.specs.declared.jobs.Job.{Job}
use Rattle.repo_feeding.specs.FedRules.{IsAsTold}
use Rattle.repo_backup.specs.Items.{place_of}

-- the clients, and the requests that they sent so far
pub record Senders : Type 0 where
  pub clients : List Client
  pub sent : List Message

-- as a world with this store
abbrev pub with_store : Store → Senders → World
with_store store s = record { store = store; clients = s.clients; messages = s.sent }

-- a client takes these items, the newest first, one after another; it may send a request behind them
abbrev pub AreFed : Senders → ℕ → List Fed → Senders → Type 0
AreFed old by [] new = new ≡ old
AreFed old by (item ∷ items) new = (mid : Senders) × AreFed old by items mid × ((store : Store) → Feeds (with_store store mid) by item (with_store store new))

-- the reply is taken by a client which waits for it; then it may be fed, if it is a backup that is; and it may send one more request
pub record IsTaken (old : Senders) (request : Request) (reply : Reply) (new : Senders) : Type 0 where
  pub by : ℕ
  pub sent : IsOneOf old.sent (Asked by request)
  pub waits : (client_at old.clients by).next ≡ Some request
  pub mid : Senders
  pub takes : (store : Store) → Takes (with_store store old) by reply (with_store store mid)
  pub items : List Fed
  pub fed : AreFed mid by items new

-- a client sent the request, be it long ago, and the reply to it is lost; or somebody sent it who is no client
abbrev pub IsForNoClient : Senders → Request → Type 0
IsForNoClient s request = ((k : ℕ) × IsOneOf s.sent (Asked k request)) ⊎ MayAnybodySend request

-- one answer
abbrev pub AnswerGoes : Senders → Request → Reply → Senders → Type 0
AnswerGoes old request reply new = IsTaken old request reply new ⊎ (IsForNoClient old request × (new ≡ old))

-- all answers of a hall, in the order in which they were given, to whichever guests
abbrev pub HallGoes : Senders → Log → Senders → Type 0
HallGoes old [] new = new ≡ old
HallGoes old (Brought n piece ∷ log) new = HallGoes old log new
HallGoes old (Answered n request reply ∷ log) new = (mid : Senders) × HallGoes old log mid × AnswerGoes mid request reply new
HallGoes old (Given n piece ∷ log) new = HallGoes old log new

-- halls, one after another, each over the store that the one before it left, with the clients as they were then: the server is closed and opened between
-- them. (One connection by itself is a hall with one guest.)
abbrev pub HallsGo : Store → Senders → List Log → Store → Senders → Type 0
HallsGo from old [] to new = (to ≡ from) × (new ≡ old)
HallsGo from old (log ∷ logs) to new =
    (mid : Store) × (between : Senders) × ((failed failing : ℕ) × Hosted from failed log mid failing) × HallGoes old log between × HallsGo mid between logs to new

-- some events lead from a world to one with this store and these clients, in which they sent what they did
pub record LeadsTo (w : World) (store : Store) (s : Senders) : Type 0 where
  pub events : List Event
  pub last : World
  pub run : Run w events last
  pub store_is : last.store ≡ store
  pub clients_are : last.clients ≡ s.clients
  pub sent : (m : Message) → IsOneOf s.sent m → IsOneOf last.messages m

-- whatever was answered so, from the world's store on, is a part of a run of the world
abbrev pub ConnectionsAreARun : Type 0
ConnectionsAreARun = (w : World) (logs : List Log) (to : Store) (s : Senders) → HallsGo w.store (record { clients = w.clients; sent = w.messages }) logs to s → LeadsTo w to s

-- ---- guests at whose other end are clients of the world

-- a client takes the reply of a turn, which is to its pending request, and is fed these items then, where it may be; and stands so behind them
pub record TakesTurn (old : Client) (turn : Turn) (new : Client) : Type 0 where
  pub running : old.crashed ≡ false
  pub pending : old.next ≡ Some turn.request
  pub answers : IsReplyTo turn.request turn.reply
  pub job : new.job ≡ old.job
  pub who : new.who ≡ old.who
  pub items : List Fed
  pub welcome : AreWelcomeTo new.job items turn.request.ask turn.reply.say turn.emitted old.trace
  pub under_way : items ≢ [] → old.outcome ≡ None
  pub trace : new.trace ≡ with_items items (exchange turn.request turn.reply turn.emitted) ∷ old.trace
  pub up : new.crashed ≡ false
  pub dutiful : IsDutiful new
  pub stays : (o : Outcome) → old.outcome ≡ Some o → new.outcome ≡ Some o

-- it goes by a talk
abbrev pub GoesBy : Client → Talk → Client → Type 0
GoesBy old [] new = new ≡ old
GoesBy old (turn ∷ talk) new = (mid : Client) × GoesBy old talk mid × TakesTurn mid turn new

-- it goes by those turns of a talk that are its own; the others ask what anybody may, as a command does that asks a store for its config before it begins
abbrev pub GoesAmid : Client → Talk → Client → Type 0
GoesAmid old [] new = new ≡ old
GoesAmid old (turn ∷ talk) new = (mid : Client) × GoesAmid old talk mid × (TakesTurn mid turn new ⊎ (MayAnybodySend turn.request × (new ≡ mid)))

-- what was said over a client's connection goes along with what happened to the guest; the client goes by its turns of that talk to where it ends, and what
-- is pending on the connection then is the client's, or what anybody may ask; and the request that was pending before was sent
pub record IsClients (old : Senders) (k : ℕ) (s : Stay) (end : Client) : Type 0 where
  pub said : Said
  pub next : Option Request
  pub along : TalksAlong said next s
  pub goes : GoesAmid (client_at old.clients k) said.talk end
  pub waits : (request : Request) → next ≡ Some request → (end.next ≡ Some request) ⊎ MayAnybodySend request
  pub sent : (request : Request) → (client_at old.clients k).next ≡ Some request → IsOneOf old.sent (Asked k request)

-- each guest is a client's, and no client has two; or it is somebody's who is no client, or one on whose connection a client sent what is answered now, and
-- waits there no more
pub record AreOwned (old : Senders) (log : Log) (who : ℕ → Option ℕ) (end : ℕ → Client) : Type 0 where
  pub apart : (i j k : ℕ) → who i ≡ Some k → who j ≡ Some k → i ≡ j
  pub clients : (g k : ℕ) → who g ≡ Some k → IsClients old k (stay g log) (end g)
  pub others : (g : ℕ) → who g ≡ None → Each (IsForNoClient old) (stay g log).asked

-- clients end so, and what they have pending there was sent
abbrev pub AreAtEnds : (ℕ → Option ℕ) → (ℕ → Client) → Senders → Type 0
AreAtEnds who end new =
    (g k : ℕ) → who g ≡ Some k → (client_at new.clients k ≡ end g) × ((request : Request) → (end g).next ≡ Some request → IsOneOf new.sent (Asked k request))

-- then the answers go so, each client of a guest ends where its talk ends, the other clients are as they were, and what was sent before stays so
abbrev pub OwnedGuestsGo : Type 0
OwnedGuestsGo = (old : Senders) (log : Log) (who : ℕ → Option ℕ) (end : ℕ → Client) → AreOwned old log who end
    → (new : Senders) × HallGoes old log new × AreAtEnds who end new × ((j : ℕ) → ((g : ℕ) → who g ≢ Some j) → client_at new.clients j ≡ client_at old.clients j)
    × ((m : Message) → IsOneOf old.sent m → IsOneOf new.sent m)

-- what happened in a hall goes so where a first part of it does, and the rest behind it: as a client may have one guest in each part, the parts may be cut
-- where a client connects once more
abbrev pub HallPartsGo : Type 0
HallPartsGo = (old mid new : Senders) (earlier later : Log) → HallGoes old earlier mid → HallGoes mid later new → HallGoes old (later ++ earlier) new

-- what a client goes by over one connection after another it goes by in parts, also where turns that ask what anybody may stand before those of a part
abbrev pub GoesInParts : Type 0
GoesInParts = (old new : Client) (opening talk later : Talk) → Each (λ turn. MayAnybodySend turn.request) opening → GoesBy old (later ++ talk) new
    → (mid : Client) × GoesAmid old (talk ++ opening) mid × GoesBy mid later new

-- ---- a backup that feeds itself

-- What it said over its connections, one turn or more, is what a backup that is fed goes by from its start, with some items on its exchanges. So it may be the
-- client of a guest.
abbrev pub FedBackupGoes : Type 0
FedBackupGoes = (k : ℕ) (whole : Option (List Fed)) (host : List ℕ) (time : ℕ) (turn : Turn) (talk : Talk) (next : Option Request) (outcome : Option Outcome)
    → Each IsTurn (turn ∷ talk) → AreNumbered (instance_of k) 0 (turn ∷ talk) → IsFedClient (asker (instance_of k) host time Versions.Both) whole next outcome (trace_of (turn ∷ talk))
    → (fs : Trace) × (unfed fs ≡ trace_of (turn ∷ talk)) × IsAsTold whole (place_of (fed_in fs)) × GoesBy (started k Job.Pieces host time false) (turn ∷ talk) (running k Job.Pieces host time fs next outcome)

-- ---- one connection by itself

-- what serving one connection gave is a hall with one guest, which brought its bytes, and was answered so
pub record IsHosted (before : Moment) (past : Past) (after : Moment) : Type 0 where
  pub log : Log
  pub hosted : Hosted before.store before.failures log after.store after.failures
  pub bytes : (stay 0 log).bytes ≡ past.bytes
  pub asked : all_asked log ≡ past.asked
  pub replies : all_replies log ≡ past.replies
  pub alone : (k : ℕ) → k ≢ 0 → stay k log ≡ no_stay

abbrev pub ServingIsHosting : Type 0
ServingIsHosting = (before after : Moment) (past : Past) → SomeServed plain before past after → IsHosted before past after
