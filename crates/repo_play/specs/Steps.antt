-- What is done with a world, over a device that never fails by itself.
use Rattle.std.specs.Prelude.{◌≡◌, ◌⊎◌, ◌≤◌, ◌+◌, ◌++◌, ◌∷◌, [], ⊤, ℕ, zero, suc, List, length, slice_get, codes, decimal, Option, Some, None}
use Rattle.repo_wire.specs.Messages.{code_number}
use Rattle.repo_wire.specs.declared.messages.Ask.{Ask}
use Rattle.repo_wire.specs.declared.messages.Reply.{Reply}
use Rattle.repo_wire.specs.declared.messages.Request.{Request}
use Rattle.repo_wire.specs.declared.messages.Say.{Say}
use Rattle.repo_world.specs.Events.{AnswersNobody, Happens}
use Rattle.repo_store.specs.declared.faults.Fail.{Fail}
use Rattle.repo_world.specs.World.{World, Message, Asked, Said, IsOneOf, awaited, client, instance_of}
use Rattle.repo_world.specs.declared.events.Applied.{Applied}
use Rattle.repo_world.specs.declared.events.Event.{Event}
use Rattle.repo_script.specs.Sorts.{sort_of}
use Rattle.repo_script.specs.declared.lines.Question.{Question}
use Rattle.repo_script.specs.declared.sorts.AskSort.{AskSort}

-- one event after another
abbrev pub AllHappen : World → List Event → World → Type 0
AllHappen w [] v = v ≡ w
AllHappen w (e ∷ es) v = (u : World) × ((applied : Applied) × Happens ⊥ w e applied u) × AllHappen u es v

-- a client of this number is there: it sent a request. (Each sends its first one as it starts.)
abbrev pub HasClient : World → ℕ → Type 0
HasClient w k = (request : Request) × IsOneOf w.messages (Asked k request)

-- the last request of a client stands at this place among all messages
pub record IsLast (messages : List Message) (k place : ℕ) : Type 0 where
  pub request : Request
  pub is : slice_get messages place ≡ Some (Asked k request)
  pub last : (later : ℕ) (other : Request) → slice_get messages later ≡ Some (Asked k other) → later ≤ place

-- ---- steps

-- a message is delivered, and the device fails in a call of a sort, if it is to
abbrev pub delivery : Option Fail → ℕ → Event
delivery None place = Event.Deliver place
delivery (Some fail) place = Event.Fault place fail

-- a request of the client is pending: its last one is delivered, and then the reply to it, which joined the messages
pub record StepsClient (fail : Option Fail) (w : World) (k : ℕ) (v : World) : Type 0 where
  pub request : Request
  pub pending : awaited (client w k) ≡ Some request
  pub place : ℕ
  pub last : IsLast w.messages k place
  pub both : AllHappen w (delivery fail place ∷ Event.Deliver (length w.messages) ∷ []) v

-- a step; or none, as nothing is pending
abbrev pub MayStepClient : Option Fail → World → ℕ → World → Type 0
MayStepClient fail w k v = StepsClient fail w k v ⊎ ((awaited (client w k) ≡ None) × (v ≡ w))

-- no more steps are to be made: nothing is pending, or it is a request of the sort that is waited for, if one is
abbrev pub NeedsNoStep : Option AskSort → Option Request → Type 0
NeedsNoStep sort None = ⊤
NeedsNoStep None (Some request) = ⊥
NeedsNoStep (Some sort) (Some request) = sort_of request.ask ≡ Some sort

-- so many steps, each where more are to be made
abbrev pub StepsClientOn : Option AskSort → ℕ → World → ℕ → World → Type 0
StepsClientOn sort zero w k v = v ≡ w
StepsClientOn sort (suc n) w k v = (¬ NeedsNoStep sort (awaited (client w k))) × (u : World) × StepsClient None w k u × StepsClientOn sort n u k v

-- steps, until no more are to be made
abbrev pub Goes : Option AskSort → World → ℕ → World → Type 0
Goes sort w k v = (n : ℕ) × StepsClientOn sort n w k v × NeedsNoStep sort (awaited (client v k))

-- ---- requests once more

-- what the store said to a late request, in words
abbrev pub say_word : Say → List ℕ
say_word Say.Done = codes "done"
say_word (Say.Refused code) = codes "refused " ++ decimal (code_number code)
say_word _ = codes "other"

-- the line that tells it
abbrev pub late_line : ℕ → Say → List ℕ
late_line k say = codes "late " ++ (decimal k ++ (codes " " ++ (say_word say ++ codes "\n")))

-- the client's last request is delivered, and what the store says to it is told: that reply joins the messages, and isn't delivered
pub record IsLate (w : World) (k : ℕ) (text : List ℕ) (v : World) : Type 0 where
  pub place : ℕ
  pub last : IsLast w.messages k place
  pub happen : AllHappen w (Event.Deliver place ∷ []) v
  pub reply : Reply
  pub joined : slice_get v.messages (length w.messages) ≡ Some (Said k reply)
  pub told : text ≡ late_line k reply.say

-- the deliveries of the requests among some messages, the first of which has this number
abbrev pub deliveries : ℕ → List Message → List Event
deliveries n [] = []
deliveries n (Asked k request ∷ messages) = Event.Deliver n ∷ deliveries (n + 1) messages
deliveries n (Said k reply ∷ messages) = deliveries (n + 1) messages

-- ---- somebody asks who is no client

-- what is asked for: a lock from the machine `play`, at the moment 0
abbrev pub asks : Question → Ask
asks Question.Ticket = Ask.Ticket
asks (Question.Lock token exclusive) = Ask.Lock (record { token = token; exclusive = exclusive; time = 0; host = codes "play" })
asks (Question.Refresh token time) = Ask.Refresh token time
asks Question.Locks = Ask.Locks

-- the request, with a number that no client's has
abbrev pub stranger : Ask → Request
stranger ask = record { instance = instance_of 0; sequence = 0; ask = ask }

-- the line that tells what the store said to it
abbrev pub ask_line : Say → List ℕ
ask_line say = codes "ask " ++ (say_word say ++ codes "\n")

-- the store answers it, and what it says is told
pub record IsAnswered (w : World) (question : Question) (text : List ℕ) (v : World) : Type 0 where
  pub answered : AnswersNobody ⊥ w (stranger (asks question)) v
  pub told : text ≡ ask_line answered.reply.say
