-- All clients with all messages between them and the store.
use Rattle.std.specs.Prelude.{◌<◌, ℕ, List, length, map, slice_index_or, Contains}
use Rattle.repo_store.specs.Stores.{Store}
use Rattle.repo_session.specs.Traces.{Each}
use Rattle.repo_world.specs.Clients.{Client}
use Rattle.repo_world.specs.Rules.{IsRuled, rule_of}
use Rattle.repo_world.specs.Seats.{Seated, empty_seat, nothing, silence}
use Rattle.repo_world.specs.World as world
use Rattle.repo_world.specs.World.{World}
use Rattle.repo_world.specs.declared.messages.Message.{Message}

-- the seats of the clients, by their numbers, and the messages in the order in which they were sent
pub record Flow : Type 0 where
  pub seats : List Seated
  pub messages : List Message

-- the seat of a client
abbrev pub seat_at : List Seated → ℕ → Seated
seat_at seats k = slice_index_or seats k empty_seat

-- the request, or the reply, for which a message stands
abbrev pub spoken : List Seated → Message → world.Message
spoken seats (Message.Asked k request) = world.Asked k (slice_index_or (seat_at seats k).requests request nothing)
spoken seats (Message.Said k reply) = world.Said k (slice_index_or (seat_at seats k).replies reply silence)

-- the message stands for a request, or a reply, that is there
abbrev pub IsThere : List Seated → Message → Type 0
IsThere seats (Message.Asked k request) = request < length (seat_at seats k).requests
IsThere seats (Message.Said k reply) = reply < length (seat_at seats k).replies

-- each does
abbrev pub EachIsThere : List Seated → List Message → Type 0
EachIsThere seats messages = Each (IsThere seats) messages

-- so it is, and for each request, and each reply, that is there one stands; and each client goes by its job's whole rule
pub record FlowStands (seats : List Seated) (messages : List Message) : Type 0 where
  pub there : EachIsThere seats messages
  pub all : (message : Message) → IsThere seats message → Contains messages message
  pub ruled : Each (λ seat. IsRuled seat.client) seats

-- the clients
abbrev pub clients_in : Flow → List Client
clients_in flow = map (λ seat. seat.client) flow.seats

-- the messages, in full
abbrev pub messages_in : Flow → List world.Message
messages_in flow = map (spoken flow.seats) flow.messages

-- the world of a store and all this
abbrev pub world_of : Store → Flow → World
world_of store flow = record { store = store; clients = clients_in flow; messages = messages_in flow }
