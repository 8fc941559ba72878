-- What the commands do that ask a store themselves.
use Rattle.std.specs.Prelude.{◌≡◌, ◌⊎◌, ◌+◌, ◌++◌, ◌∷◌, [], ℕ, Bool, true, false, List, length, Option, None, Result, Ok, Err}
use Rattle.repo_name.specs.declared.rows.LockRow.{LockRow}
use Rattle.repo_name.specs.declared.tokens.Token.{Token}
use Rattle.repo_wire.specs.declared.messages.Ask.{Ask}
use Rattle.repo_wire.specs.declared.messages.Reply.{Reply}
use Rattle.repo_wire.specs.declared.messages.Request.{Request}
use Rattle.repo_wire.specs.declared.messages.Say.{Say}
use Rattle.repo_locks.specs.Ages.{stale_tokens}
use Rattle.repo_locks.specs.TokenMachine.{tokens_of}
use Rattle.repo_session.specs.declared.driving.DriveError.{DriveError}
use Rattle.repo_dial.specs.Dialing.{AsksOnce}
use Rattle.repo_dial.specs.Ends.{ConnectionEnds}
use Rattle.repo_prog.specs.declared.callers.Caller.{Caller}
use Rattle.repo_prog.specs.declared.status.Status.{Status}
use Rattle.repo_prog.specs.Tellings.{TellsIfThere, removal_told}

-- a command's streams: its connection, and what was written on the output
pub record Streams : Type 0 where
  pub connection : ConnectionEnds
  pub shown : Option (List ℕ)

abbrev pub streams : ConnectionEnds → Option (List ℕ) → Streams
streams connection shown = record { connection = connection; shown = shown }

-- a caller's request of this number
abbrev pub request_of : Caller → ℕ → Ask → Request
request_of caller sequence ask = record { instance = caller.instance; sequence = sequence; ask = ask }

-- what an answer tells
abbrev pub told_by : (Say → Option (List ℕ)) → Result Reply DriveError → Option (List ℕ)
told_by told (Ok reply) = told reply.say
told_by told (Err error) = None

-- one request was asked over the connection, and its answer was told
pub record Asked (request : Request) (told : Say → Option (List ℕ)) (old : Streams) (status : Status) (new : Streams) : Type 0 where
  pub answer : Result Reply DriveError
  pub asks : AsksOnce request old.connection answer new.connection
  pub tells : TellsIfThere (told_by told answer) status old.shown new.shown

-- the tokens that are to be removed: of all rows, or of the stale ones
abbrev pub chosen : Bool → ℕ → List LockRow → List Token
chosen true now rows = tokens_of rows
chosen false now rows = stale_tokens now rows

-- locks were removed one after another, by requests numbered from here on, and each was told
abbrev pub AreRemoved : Caller → ℕ → List Token → Streams → Streams → Type 0
AreRemoved caller sequence [] old new = new ≡ old
AreRemoved caller sequence (token ∷ tokens) old new = (mid : Streams) × Asked (request_of caller sequence (Ask.Unlock token)) (removal_told token) old Status.Done mid × AreRemoved caller (sequence + 1) tokens mid new

-- some first locks were removed, and the next one wasn't, or wasn't told
pub record StopsRemoving (caller : Caller) (tokens : List Token) (old : Streams) (new : Streams) : Type 0 where
  pub before : List Token
  pub token : Token
  pub after : List Token
  pub cut : tokens ≡ before ++ token ∷ after
  pub last : Streams
  pub removed : AreRemoved caller 2 before old last
  pub stops : Asked (request_of caller (length before + 2) (Ask.Unlock token)) (removal_told token) last Status.Failed new

-- what removing locks gives: done, all were removed and told; failed, it stopped at one
abbrev pub Removes : Caller → List Token → Streams → Status → Streams → Type 0
Removes caller tokens old Status.Done new = AreRemoved caller 2 tokens old new
Removes caller tokens old Status.Failed new = StopsRemoving caller tokens old new
Removes caller tokens old Status.Flawed new = ⊥
Removes caller tokens old Status.Usage new = ⊥

-- the store's live locks were asked for, and nothing was written on the output
pub record HeardOf (request : Request) (old : Streams) (answer : Result Reply DriveError) (new : Streams) : Type 0 where
  pub asks : AsksOnce request old.connection answer new.connection
  pub same : new.shown ≡ old.shown

-- live locks were listed, and those chosen of them removed
pub record RemovesChosen (caller : Caller) (all : Bool) (old : Streams) (status : Status) (new : Streams) : Type 0 where
  pub reply : Reply
  pub rows : List LockRow
  pub mid : Streams
  pub heard : HeardOf (request_of caller 1 Ask.Locks) old (Ok reply) mid
  pub lists : reply.say ≡ Say.LockList rows
  pub removes : Removes caller (chosen all caller.time rows) mid status new

-- no lock was removed
abbrev pub RemovesNone : Caller → Streams → Status → Streams → Type 0
RemovesNone caller old status new = (status ≡ Status.Failed) × ((answer : Result Reply DriveError) × HeardOf (request_of caller 1 Ask.Locks) old answer new)

-- what unlocking gives: the locks chosen of those listed were removed, or some first ones; or it failed before that
abbrev pub RemovesLocks : Caller → Bool → Streams → Status → Streams → Type 0
RemovesLocks caller all old status new = RemovesChosen caller all old status new ⊎ RemovesNone caller old status new
