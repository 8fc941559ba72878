-- What is done for a guest.
use Rattle.std.specs.Prelude.{◌≡◌, ◌≢◌, ◌⊎◌, ◌++◌, [], ℕ, Bool, true, false, List, All, drop, Some, None, Result, Ok, Err}
use Rattle.repo_wire.specs.declared.faults.Fault.{Fault}
use Rattle.repo_wire.specs.declared.faults.WireError.{WireError}
use Rattle.repo_wire.specs.declared.messages.Reply.{Reply}
use Rattle.repo_wire.specs.declared.messages.Request.{Request}
use Rattle.repo_wire.specs.Messages as messages
use Rattle.repo_wire.specs.Messages.{requests, reply_body}
use Rattle.repo_wire.specs.Reading.{Follows, NextMessage}
use Rattle.repo_wire.specs.Stream.{frame, FitsFrame, HasFault, IsPartial}
use Rattle.repo_store.specs.declared.forms.ServiceError.{ServiceError}
use Rattle.repo_store.specs.Runs.{Replies}
use Rattle.repo_store.specs.Serving.{plain, shown}
use Rattle.repo_store.specs.StoreMachine.{SaysFault}
use Rattle.repo_store.specs.Stores.{Store}
use Rattle.repo_session.specs.Joined.{AreFirst}
use Rattle.repo_hall.specs.declared.guests.Guest.{Guest}
use Rattle.repo_hall.specs.Happenings.{Stay, AreRepliesTo}

-- what a guest is to be given yet
abbrev pub out_of : Guest → List ℕ
out_of g = drop g.given g.frame.items

-- a guest of this number that brought nothing so far
pub record IsNewGuest (g : Guest) (n : ℕ) : Type 0 where
  pub number : g.number ≡ n
  pub reader : g.reader ≡ record { unread = []; fault = None }
  pub out : out_of g ≡ []
  pub ended : g.ended ≡ false

-- a request was answered by one step of the store machine, and all replies before had been given
pub record GuestAnswered (old new : Guest) (request : Request) (reply : Reply) (from : Store) (failed : ℕ) (to : Store) (failing : ℕ) : Type 0 where
  pub up : old.ended ≡ false
  pub given : out_of old ≡ []
  pub number : new.number ≡ old.number
  pub read : NextMessage requests old.reader (Ok (Some request)) new.reader
  pub step : Replies from request reply to
  pub cause : SaysFault failed reply.say failing
  pub fits : FitsFrame messages.replies reply

-- none was answered: whatever the reader followed, it follows
pub record GuestRests (old new : Guest) (from : Store) (failed : ℕ) (to : Store) (failing : ℕ) : Type 0 where
  pub number : new.number ≡ old.number
  pub follows : (bytes : List ℕ) (asked : List Request) → Follows requests bytes asked old.reader → Follows requests bytes asked new.reader
  pub out : out_of new ≡ out_of old
  pub ended : new.ended ≡ false → old.ended ≡ false
  pub store : to ≡ from
  pub failures : failing ≡ failed

-- what answering a guest comes to, by what is returned
abbrev pub GuestGoes : Guest → Result Bool ServiceError → Guest → Store → ℕ → Store → ℕ → Type 0
-- one request was answered, and the reply's frame is to be given
GuestGoes old (Ok true) new from failed to failing = (request : Request) × (reply : Reply) × GuestAnswered old new request reply from failed to failing
    × (out_of new ≡ frame (reply_body reply)) × (new.ended ≡ false)
GuestGoes old (Ok false) new from failed to failing = GuestRests old new from failed to failing
-- the reader told this fault
GuestGoes old (Err (ServiceError.Wire fault)) new from failed to failing =
    GuestRests old new from failed to failing × NextMessage requests old.reader (Err (WireError.Fault fault)) new.reader
-- there was no memory for a request, or for the reply to one that was answered
GuestGoes old (Err ServiceError.Memory) new from failed to failing = GuestRests old new from failed to failing
    ⊎ ((request : Request) × (reply : Reply) × GuestAnswered old new request reply from failed to failing × (out_of new ≡ []) × (new.ended ≡ true))
GuestGoes old (Err ServiceError.Write) new from failed to failing = ⊥
GuestGoes old (Err ServiceError.Limit) new from failed to failing = ⊥

-- nothing of what a guest brought is left but less than a whole frame, and no fault
abbrev pub IsLessThanAFrame : Guest → Type 0
IsLessThanAFrame g = (g.reader.fault ≡ None) × IsPartial g.reader.unread

-- a guest of which more is awaited: it is answered still, has nothing to be given yet, and brought less than a whole frame
pub record IsAwaited (g : Guest) : Type 0 where
  pub up : g.ended ≡ false
  pub given : out_of g ≡ []
  pub less : IsLessThanAFrame g

-- what each answer comes for: a guest isn't answered only where it is answered no more, has something to be given yet, or brought less than a whole
-- frame; a fault is told only where its stream has it
abbrev pub AnswerCause : Guest → Result Bool ServiceError → Type 0
AnswerCause g (Ok true) = (g.ended ≡ false) × (out_of g ≡ [])
AnswerCause g (Ok false) = (g.ended ≡ true) ⊎ ((out_of g ≢ []) ⊎ IsLessThanAFrame g)
AnswerCause g (Err (ServiceError.Wire fault)) =
    (g.ended ≡ false) × (out_of g ≡ []) × ((g.reader.fault ≡ Some fault) ⊎ HasFault requests g.reader.unread fault)
AnswerCause g (Err ServiceError.Memory) = (g.ended ≡ false) × (out_of g ≡ [])
AnswerCause g (Err ServiceError.Write) = ⊥
AnswerCause g (Err ServiceError.Limit) = ⊥

-- a guest to which this happened: its reader follows its bytes, and unless it ended it was given all of the replies' frames but what it is to be given yet
pub record IsGuest (s : Stay) (g : Guest) : Type 0 where
  pub reader : Follows requests s.bytes s.asked g.reader
  pub answers : AreRepliesTo s.asked s.replies
  pub fits : All (FitsFrame messages.replies) s.replies
  pub told : AreFirst (s.given ++ out_of g) (shown plain s.replies)
  pub all : g.ended ≡ false → s.given ++ out_of g ≡ shown plain s.replies
