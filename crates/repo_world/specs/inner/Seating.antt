-- What becomes of a seat.
use Rattle.std.specs.Prelude.{◌≡◌, ◌<◌, ◌++◌, ◌∷◌, [], ℕ, true, false, List, slice_index_or, Some}
use Rattle.repo_wire.specs.declared.messages.Ask.{Ask}
use Rattle.repo_wire.specs.declared.messages.Reply.{Reply}
use Rattle.repo_wire.specs.declared.messages.Request.{Request}
use Rattle.repo_wire.specs.declared.messages.Say.{Say}
use Rattle.repo_store.specs.Failing.{IsAsArmed}
use Rattle.repo_store.specs.StoreMachine.{Step}
use Rattle.repo_store.specs.Stores.{Store}
use Rattle.repo_store.specs.declared.faults.Armed.{Armed}
use Rattle.repo_session.specs.Clients.{IsReplyTo, AnswersNext, exchange}
use Rattle.repo_session.specs.declared.emissions.Emission.{Emission}
use Rattle.repo_session.specs.declared.outcomes.Outcome.{Outcome}
use Rattle.repo_session.specs.Feeds.{Fed}
use Rattle.repo_session.specs.Traces.{fed_in, feeding}
use Rattle.repo_backup.specs.Items.{AreTaken, IsCountOf, fed_part, size_of}
use Rattle.repo_backup.specs.declared.items.Item.{Item}
use Rattle.repo_world.specs.Clients.{IsWaiting, MayBeFed}
use Rattle.repo_world.specs.Events.{RefusesItem}
use Rattle.repo_world.specs.Rules.{IsRuled, rule_of}
use Rattle.repo_world.specs.Seats.{Seated, listed, nothing, silence}
use Rattle.repo_world.specs.World.{crashed_one}
use Rattle.repo_world.specs.declared.seats.Arrival.{Arrival}
use Rattle.repo_world.specs.declared.seats.Intake.{Intake}

-- the client stopped for good
abbrev pub Crashed : Seated → Seated → Type 0
Crashed old new = new ≡ record { client = crashed_one old.client; requests = old.requests; replies = old.replies }

-- a step of the store, over a device of which something is armed or not, and which failed by itself so often before and after
abbrev pub StepsAsArmed : Armed → ℕ → Armed → ℕ → Store → Ask → Say → Store → Type 0
StepsAsArmed armed own left owned old ask say new = Step old ask say new × IsAsArmed armed own old ask say left owned new

-- one reply more stands behind the others
abbrev pub Replied : Seated → Seated → Type 0
Replied old new = (reply : Reply) × (new ≡ record { client = old.client; requests = old.requests; replies = old.replies ++ reply ∷ [] })

-- the request at a place was answered, and the reply stands behind the others
pub record Answered (old : Seated) (place : ℕ) (new : Seated) (from : Store) (armed : Armed) (own : ℕ) (to : Store) (left : Armed) (owned : ℕ) : Type 0 where
  pub reply : Reply
  pub answers : IsReplyTo (slice_index_or old.requests place nothing) reply
  pub step : StepsAsArmed armed own left owned from (slice_index_or old.requests place nothing).ask reply.say to
  pub is : new ≡ record { client = old.client; requests = old.requests; replies = old.replies ++ reply ∷ [] }

-- the client awaited the reply, took it, and may have sent one more request
pub record TookReply (old : Seated) (reply : Reply) (new : Seated) : Type 0 where
  pub running : old.client.crashed ≡ false
  pub request : Request
  pub pending : old.client.next ≡ Some request
  pub answers : IsReplyTo request reply
  pub emitted : List Emission
  pub job : new.client.job ≡ old.client.job
  pub who : new.client.who ≡ old.client.who
  pub trace : new.client.trace ≡ exchange request reply emitted ∷ old.client.trace
  pub up : new.client.crashed ≡ false
  pub ruled : IsRuled new.client
  pub stays : (o : Outcome) → old.client.outcome ≡ Some o → new.client.outcome ≡ Some o
  pub requests : new.requests ≡ old.requests ++ listed new.client.next
  pub replies : new.replies ≡ old.replies

-- the client took an item, and may have sent a request
pub record TookItem (old : Seated) (item : Fed) (new : Seated) : Type 0 where
  pub fed : MayBeFed old.client
  pub waits : IsWaiting old.client
  pub may : AreTaken (item ∷ fed_in old.client.trace)
  pub job : new.client.job ≡ old.client.job
  pub who : new.client.who ≡ old.client.who
  pub trace : new.client.trace ≡ feeding item old.client.trace
  pub up : new.client.crashed ≡ false
  pub ruled : IsRuled new.client
  pub requests : new.requests ≡ old.requests ++ listed new.client.next
  pub replies : new.replies ≡ old.replies

-- what came of an item that was given to the client; where fewer bytes of a piece were taken than given, the client waits no more
abbrev pub SeatFed : Seated → Item → Seated → Intake → Type 0
SeatFed old item new (Intake.Unfed e) = RefusesItem old.client item e × (new ≡ old)
SeatFed old item new (Intake.Taken n) = IsCountOf n item × TookItem old (fed_part n item) new × (n < size_of item → ¬ IsWaiting new.client)

-- what came of a reply that was delivered
abbrev pub SeatTook : Seated → ℕ → Seated → Arrival → Type 0
SeatTook old place new Arrival.Stopped = (old.client.crashed ≡ true) × (new ≡ old)
SeatTook old place new Arrival.Unawaited = (old.client.crashed ≡ false) × (¬ AnswersNext old.client.next (slice_index_or old.replies place silence)) × (new ≡ old)
SeatTook old place new Arrival.Taken = TookReply old (slice_index_or old.replies place silence) new
