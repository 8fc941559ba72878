-- The world: a store, its clients, and all messages that were ever sent.
use Rattle.std.specs.Prelude.{◌≡◌, ◌⊎◌, ◌∷◌, [], ℕ, Bool, true, false, List, slice_index_or, cond, Option, Some, None}
use Rattle.std.specs.Int.{to_be_bytes, w128}
use Rattle.repo_name.specs.declared.names.Instance.{Instance}
use Rattle.repo_wire.specs.declared.messages.Ask.{Ask}
use Rattle.repo_wire.specs.declared.messages.Reply.{Reply}
use Rattle.repo_wire.specs.declared.messages.Request.{Request}
use Rattle.repo_store.specs.Stores.{Store}
use Rattle.repo_session.specs.Askers.{asker}
use Rattle.repo_session.specs.Traces.{Trace, gathered}
use Rattle.repo_session.specs.declared.emissions.Emission.{Emission}
use Rattle.repo_session.specs.declared.versions.Versions.{Versions}
use Rattle.repo_world.specs.Clients.{Client}
use Rattle.repo_world.specs.declared.jobs.Job.{Job}

-- a message: a client's request, or the store's reply to it, with the client's number
pub data Message : Type 0 where
  Asked : (client : ℕ) → (request : Request) → Message
  Said : (client : ℕ) → (reply : Reply) → Message

-- clients are numbered by their places, from 0 on, and so are messages
pub record World : Type 0 where
  pub store : Store
  pub clients : List Client
  pub messages : List Message

-- nothing was sent
abbrev pub beginning : Store → World
beginning store = record { store = store; clients = []; messages = [] }

-- a client's instance: its number in 16 bytes, the highest first
abbrev pub instance_of : ℕ → Instance
instance_of k = record { 0 = to_be_bytes w128 k }

-- what every client sends first: the request for a ticket
abbrev pub first_of : ℕ → Request
first_of k = record { instance = instance_of k; sequence = 1; ask = Ask.Ticket }

-- the versions that a client knows: an old one version 1 alone
abbrev pub versions_of : Bool → Versions
versions_of true = Versions.One
versions_of false = Versions.Both

-- a client that has just started, an old one or not
abbrev pub started : ℕ → Job → List ℕ → ℕ → Bool → Client
started k job host time old = record { job = job; who = asker (instance_of k) host time (versions_of old); trace = []; next = Some (first_of k); outcome = None; crashed = false }

-- a client that stopped for good
abbrev pub crashed_one : Client → Client
crashed_one c = record { job = c.job; who = c.who; trace = c.trace; next = c.next; outcome = c.outcome; crashed = true }

-- what stands for a client that never started
abbrev pub nobody : Client
nobody = record { job = Job.List; who = asker (instance_of 0) [] 0 Versions.Both; trace = []; next = None; outcome = None; crashed = true }

-- the client of a number among some
abbrev pub client_at : List Client → ℕ → Client
client_at clients k = slice_index_or clients k nobody

-- the client of a number
abbrev pub client : World → ℕ → Client
client w k = client_at w.clients k

-- the request that a client waits for, until it stopped for good
abbrev pub awaited : Client → Option Request
awaited c = cond c.crashed None c.next

-- what a client gave out on each of its exchanges, from the oldest on
abbrev pub given_out : Trace → List (List Emission)
given_out es = gathered (λ e. e.emitted ∷ []) es

-- it is one of these
abbrev pub IsOneOf : {A : Type 0} → List A → A → Type 0
IsOneOf [] x = ⊥
IsOneOf (y ∷ ys) x = (y ≡ x) ⊎ IsOneOf ys x

-- the message of what is pending
abbrev pub sends : ℕ → Option Request → List Message
sends k None = []
sends k (Some request) = Asked k request ∷ []
