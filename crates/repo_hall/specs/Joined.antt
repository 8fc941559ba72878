-- What the guests of a hall do together with their clients.
use Rattle.std.specs.Prelude.{◌≡◌, ◌⊎◌, ◌++◌, ◌∷◌, [], ℕ, List, Option, Some}
use Rattle.repo_wire.specs.declared.messages.Reply.{Reply}
use Rattle.repo_wire.specs.declared.messages.Request.{Request}
use Rattle.repo_store.specs.Runs.{StoreRun}
use Rattle.repo_store.specs.Stores.{Store}
use Rattle.repo_session.specs.Clients.{IsReplyTo}
use Rattle.repo_session.specs.Joined.{AreFirst, IsSaid, IsSendable}
use Rattle.repo_session.specs.Talks.{Said, sent_in, taken_in, read_in, frames_of, pending_frame}
use Rattle.repo_hall.specs.Halls.{Hosted}
use Rattle.repo_hall.specs.Happenings.{Log, Stay, all_asked, all_replies, stay}

-- The connection of a guest brings each end what the other wrote, in order and unchanged, and perhaps not all of it: what the guest brought are the first
-- bytes of the frames of the requests that its client sent and of the one that is pending, and what the client read are the first bytes of what the guest
-- was given.
pub record GuestJoined (said : Said) (next : Option Request) (s : Stay) : Type 0 where
  pub asked : AreFirst s.bytes (frames_of (sent_in said.talk) ++ pending_frame next)
  pub told : AreFirst said.bytes s.given

-- a client at the other end of a guest's connection: what it said, what is pending, and that they are joined
pub record Party (s : Stay) : Type 0 where
  pub said : Said
  pub next : Option Request
  pub is_said : IsSaid said
  pub sendable : IsSendable next
  pub joined : GuestJoined said next s

-- nothing more was answered; or the request that is pending was
abbrev pub AtMostPending : Option Request → List Request → List Reply → Type 0
AtMostPending next left further = ((left ≡ []) × (further ≡ []))
    ⊎ ((request : Request) × (reply : Reply) × (next ≡ Some request) × IsReplyTo request reply × (left ≡ request ∷ []) × (further ≡ reply ∷ []))

-- what was answered to a guest is its client's talk, turn by turn, and at most the request that is pending; the client passed no reply over
pub record TalksAlong (said : Said) (next : Option Request) (s : Stay) : Type 0 where
  pub read : read_in said.talk ≡ taken_in said.talk
  pub left : List Request
  pub further : List Reply
  pub asked : s.asked ≡ sent_in said.talk ++ left
  pub replies : s.replies ≡ taken_in said.talk ++ further
  pub pending : AtMostPending next left further

-- Where each guest that came is joined to a client, what was answered, in the order in which it was, is one run of the store machine from what the shelf
-- stored; and of each client the part of it that is that client's is its talk, and at most one step more, on the request that is pending.
abbrev pub JoinedHallIsARun : Type 0
JoinedHallIsARun = (from to : Store) (failed failing : ℕ) (log : Log) → Hosted from failed log to failing → (parties : (k : ℕ) → Party (stay k log))
    → StoreRun from (all_asked log) (all_replies log) to × ((k : ℕ) → TalksAlong (parties k).said (parties k).next (stay k log))
