-- What happens in a hall.
use Rattle.std.specs.Prelude.{◌≡◌, ◌++◌, ◌∷◌, [], ⊤, ℕ, List, All, cond, eqb}
use Rattle.repo_wire.specs.declared.messages.Reply.{Reply}
use Rattle.repo_wire.specs.declared.messages.Request.{Request}
use Rattle.repo_wire.specs.Messages as messages
use Rattle.repo_wire.specs.Messages.{requests}
use Rattle.repo_wire.specs.Stream.{FitsFrame, AreFrames, IsStream, Waits}
use Rattle.repo_store.specs.Serving.{plain, shown}
use Rattle.repo_session.specs.Clients.{IsReplyTo}
use Rattle.repo_session.specs.Joined.{AreFirst}

-- the guest of a number brought these bytes, its request was answered so, or it was given these bytes
pub data Happening : Type 0 where
  Brought : (number : ℕ) → (piece : List ℕ) → Happening
  Answered : (number : ℕ) → (request : Request) → (reply : Reply) → Happening
  Given : (number : ℕ) → (piece : List ℕ) → Happening

-- what happened, the newest first
abbrev pub Log : Type 0
Log = List Happening

-- all requests that were answered, in order
abbrev pub all_asked : Log → List Request
all_asked [] = []
all_asked (Brought n piece ∷ log) = all_asked log
all_asked (Answered n request reply ∷ log) = all_asked log ++ request ∷ []
all_asked (Given n piece ∷ log) = all_asked log

-- the replies to them, in order
abbrev pub all_replies : Log → List Reply
all_replies [] = []
all_replies (Brought n piece ∷ log) = all_replies log
all_replies (Answered n request reply ∷ log) = all_replies log ++ reply ∷ []
all_replies (Given n piece ∷ log) = all_replies log

-- ---- one guest

-- what happened to one guest: the bytes that it brought, its requests that were answered, the replies, and the bytes that it was given
pub record Stay : Type 0 where
  pub bytes : List ℕ
  pub asked : List Request
  pub replies : List Reply
  pub given : List ℕ

-- nothing so far
abbrev pub no_stay : Stay
no_stay = record { bytes = []; asked = []; replies = []; given = [] }

-- one happening more, of this guest
abbrev pub going_on : Happening → Stay → Stay
going_on (Brought n piece) s = record { bytes = s.bytes ++ piece; asked = s.asked; replies = s.replies; given = s.given }
going_on (Answered n request reply) s = record { bytes = s.bytes; asked = s.asked ++ request ∷ []; replies = s.replies ++ reply ∷ []; given = s.given }
going_on (Given n piece) s = record { bytes = s.bytes; asked = s.asked; replies = s.replies; given = s.given ++ piece }

-- the number of the guest that it happened to
abbrev pub whose : Happening → ℕ
whose (Brought n piece) = n
whose (Answered n request reply) = n
whose (Given n piece) = n

-- what happened to the guest of a number
abbrev pub stay : ℕ → Log → Stay
stay k [] = no_stay
stay k (h ∷ log) = cond (eqb (whose h) k) (going_on h (stay k log)) (stay k log)

-- each reply is to the request that stands where it does, and each request has one
abbrev pub AreRepliesTo : List Request → List Reply → Type 0
AreRepliesTo [] [] = ⊤
AreRepliesTo (request ∷ asked) (reply ∷ replies) = IsReplyTo request reply × AreRepliesTo asked replies
AreRepliesTo [] (reply ∷ replies) = ⊥
AreRepliesTo (request ∷ asked) [] = ⊥

-- what a guest brought begins with the frames of its requests, in their order; each was answered by a reply to it, which fits a frame; and the guest
-- was given the first bytes of the replies' frames
pub record IsStay (s : Stay) : Type 0 where
  pub stream : (rest : List ℕ) × AreFrames requests s.bytes s.asked rest
  pub answers : AreRepliesTo s.asked s.replies
  pub fits : All (FitsFrame messages.replies) s.replies
  pub told : AreFirst s.given (shown plain s.replies)

-- ---- turns

-- a guest was served all that it brought: each whole request in that was answered, and it was given the frames of all replies
pub record IsAtRest (s : Stay) : Type 0 where
  pub unread : List ℕ
  pub stream : IsStream requests s.bytes s.asked (Waits unread)
  pub told : s.given ≡ shown plain s.replies

-- whenever a guest brought more, it had been served all that it had brought before; and whenever a request of it was answered, it had been given the frames
-- of all replies before
abbrev pub AreInTurn : Log → Type 0
AreInTurn [] = ⊤
AreInTurn (Brought n piece ∷ log) = AreInTurn log × IsAtRest (stay n log)
AreInTurn (Answered n request reply ∷ log) = AreInTurn log × ((stay n log).given ≡ shown plain (stay n log).replies)
AreInTurn (Given n piece ∷ log) = AreInTurn log
