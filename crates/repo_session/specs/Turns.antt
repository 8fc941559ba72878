-- What a driver does over a channel, and that it hears only while a reply is awaited.
use Rattle.std.specs.Prelude.{◌≡◌, ◌++◌, ◌∷◌, [], ⊤, ℕ, List, Option, Some, None, Result, OnOk}
use Rattle.repo_name.specs.declared.names.Instance.{Instance}
use Rattle.repo_wire.specs.declared.messages.Reply.{Reply}
use Rattle.repo_wire.specs.declared.messages.Request.{Request}
use Rattle.repo_wire.specs.Messages.{request_body}
use Rattle.repo_wire.specs.Stream.{frame}
use Rattle.repo_store.specs.Channels.{Passage, heard, said, Passes, heard_in, said_in, AreSaid}
use Rattle.repo_session.specs.declared.connections.Connection.{Connection}
use Rattle.repo_session.specs.declared.driving.DriveError.{DriveError}
use Rattle.repo_session.specs.Connections.{Heard, IsWaiting, AreReadPast, Sends, Asks}
use Rattle.repo_session.specs.Talks.{Talk, IsTurn, Said, DrivesAfter, sent_in, read_in, frames_of}
use Rattle.repo_session.specs.Traces.{Each, Trace}

-- the reply to the request isn't there yet: behind those told these bytes bring none that is to it
pub record IsUnanswered (bytes : List ℕ) (told : List Reply) (request : Request) : Type 0 where
  pub passed : List Reply
  pub past : AreReadPast request passed
  pub waits : IsWaiting bytes (told ++ passed)

-- nothing was said; and whenever something was heard, this was so of what had been heard before
abbrev pub AreHeardWhile : (List ℕ → Type 0) → List Passage → Type 0
AreHeardWhile Awaits [] = ⊤
AreHeardWhile Awaits (heard bytes ∷ passages) = AreHeardWhile Awaits passages × Awaits (heard_in passages)
AreHeardWhile Awaits (said bytes ∷ passages) = ⊥

-- by passages in which nothing was said a channel brought these bytes, each time while this was so of what it had brought before
pub record HearsBy {C : Type 0} (Hears Says : C → List ℕ → C → Type 0) (Awaits : List ℕ → Type 0) (old : C) (bytes : List ℕ) (new : C) : Type 0 where
  pub passages : List Passage
  pub passes : Passes Hears Says old passages new
  pub alone : AreHeardWhile Awaits passages
  pub all : heard_in passages ≡ bytes

-- by passages in which nothing was heard a request was sent, or some first part of its frame
pub record SendsOver {C : Type 0} (Hears Says : C → List ℕ → C → Type 0) (request : Request) (old : C) (result : Result (Unit {0}) DriveError) (new : C) : Type 0 where
  pub passages : List Passage
  pub passes : Passes Hears Says old passages new
  pub alone : AreSaid passages
  pub sends : Sends request result (Some []) (Some (said_in passages))

-- whenever something was heard, all that had been said is the frame of the request, whole, and the reply to it wasn't there yet
abbrev pub IsAskedFirst : List ℕ → List Reply → Request → List Passage → Type 0
IsAskedFirst before told request [] = ⊤
IsAskedFirst before told request (heard bytes ∷ passages) =
    IsAskedFirst before told request passages × (said_in passages ≡ frame (request_body request)) × IsUnanswered (before ++ heard_in passages) told request
IsAskedFirst before told request (said bytes ∷ passages) = IsAskedFirst before told request passages

-- what asking one request over a channel gives, behind what was read before: by passages in which it was asked first, what asking it gives, of what was heard and said by them
pub record AsksOver {C : Type 0} (Hears Says : C → List ℕ → C → Type 0) (before : List ℕ) (told : List Reply) (request : Request) (old : C) (result : Result Reply DriveError) (connection : Connection) (new : C) : Type 0 where
  pub passages : List Passage
  pub passes : Passes Hears Says old passages new
  pub in_turn : IsAskedFirst before told request passages
  pub passed : List Reply
  pub past : AreReadPast request passed
  pub asks : Asks request result (before ++ heard_in passages) told passed connection (Some []) (Some (said_in passages))

-- The reply to one of these requests is awaited: all that was said is the frames of the first ones up to it, whole, and what was heard, behind what was read
-- before, brings the replies to those before it, and none to it.
pub record IsAwaiting (before : List ℕ) (told : List Reply) (asked : List Request) (passages : List Passage) : Type 0 where
  pub talk : Talk
  pub request : Request
  pub later : List Request
  pub first : asked ≡ (sent_in talk ++ request ∷ []) ++ later
  pub whole : said_in passages ≡ frames_of (sent_in talk ++ request ∷ [])
  pub turns : Each IsTurn talk
  pub unanswered : IsUnanswered (before ++ heard_in passages) (told ++ read_in talk) request

-- whenever something was heard, the reply to one of these requests was awaited
abbrev pub AreAskedInTurn : List ℕ → List Reply → List Request → List Passage → Type 0
AreAskedInTurn before told asked [] = ⊤
AreAskedInTurn before told asked (heard bytes ∷ passages) = AreAskedInTurn before told asked passages × IsAwaiting before told asked passages
AreAskedInTurn before told asked (said bytes ∷ passages) = AreAskedInTurn before told asked passages

-- the requests of a talk, and the one that is pending
abbrev pub asked_in : Talk → Option Request → List Request
asked_in talk None = sent_in talk
asked_in talk (Some request) = sent_in talk ++ request ∷ []

-- what driving a client over a channel gives, behind what was read before: by passages in which the requests were asked in turn, what driving it gives, of what
-- was heard and said by them
pub record DrivesOver {L C : Type 0} (Hears Says : L → List ℕ → L → Type 0) (before : List ℕ) (told : List Reply) (instance : Instance) (Fits : C → Trace → Type 0) (next : C → Option Request)
    (old : C) (from : L) (result : Result ℕ DriveError) (new : C) (connection : Connection) (to : L) : Type 0 where
  pub passages : List Passage
  pub passes : Passes Hears Says from passages to
  pub said : Said
  pub bytes : said.bytes ≡ heard_in passages
  pub in_turn : AreAskedInTurn before told (asked_in said.talk (next new)) passages
  pub drives : DrivesAfter before told instance Fits next old result new said (Some []) (Some (said_in passages))
  pub rests : OnOk result (Heard (before ++ said.bytes) (told ++ read_in said.talk) connection)
