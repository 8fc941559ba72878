-- Where a backup that feeds itself stands.
use Rattle.std.specs.Prelude.{◌≡◌, ◌⊎◌, ◌+◌, ◌∷◌, [], ⊤, ℕ, Bool, true, false, List, length, is_some, Option, Some, None}
use Rattle.repo_name.specs.declared.names.Name.{Name}
use Rattle.repo_name.specs.declared.tokens.Token.{Token}
use Rattle.repo_session.specs.Askers.{Asker}
use Rattle.repo_session.specs.Feeds.{Fed, fed_bytes}
use Rattle.repo_session.specs.Sessions.{IsPut, who_in, next_in, ended_in, token_in}
use Rattle.repo_session.specs.Traces.{Exchange, Trace, fed_in, silent}
use Rattle.repo_session.specs.declared.outcomes.Outcome.{Outcome}
use Rattle.repo_wire.specs.declared.messages.Request.{Request}
use Rattle.repo_wire.specs.declared.messages.Say.{Say}
use Rattle.repo_backup.specs.Items.{Place, NobodyGaveUp, place_of}
use Rattle.repo_backup.specs.PieceBackups.{FitsPieces, IsHungry, PieceAwaits}
use Rattle.repo_backup.specs.PieceRules.{WasGivenUp}
use Rattle.repo_backup.specs.PieceStates.{IsListedOrGot}
use Rattle.repo_backup.specs.declared.piece_backups.PieceBackup.{PieceBackup}
use Rattle.repo_feeding.specs.FedRules.{IsAsTold, IsOnTheWay, IsFedLate, AreWelcome}
use Rattle.repo_feeding.specs.Reasons.{Justifies, IsReason, HasReason}
use Rattle.repo_feeding.specs.Sources.{Told, ComesFirst, EndsThere, whole_of, told_with, fed_found, IsAt}
use Rattle.repo_feeding.specs.Unfed.{unfed}
use Rattle.repo_feeding.specs.declared.fed_backups.FedBackup.{FedBackup}
use Rattle.repo_feeding.specs.declared.reasons.GivenUp.{GivenUp}
use Rattle.repo_feeding.specs.declared.sources.Found.{Found}

-- what it was made for: who asks, and all that its source was made to give, where that is known
pub record FedJob : Type 0 where
  pub who : Asker
  pub whole : Option (List Fed)

-- a backup, what its source was told to give, the bytes that came and weren't fed yet, whether there is a reason for which it was given up, and what makes
-- that so where its items lead
pub record Feeder : Type 1 where
  pub backup : PieceBackup
  pub told : Option Told
  pub rest : List ℕ
  pub gave : Bool
  pub cause : Place → Type 0

-- of a source that failed for such reasons, and may begin again, with the reason why it was given up
abbrev pub feeder : {E : Type 0} → PieceBackup → Option Told → List ℕ → (E → Type 0) → Type 0 → Option (GivenUp E) → Feeder
feeder backup told rest failed rewinds given_up = record { backup = backup; told = told; rest = rest; gave = is_some given_up; cause = λ p. HasReason failed rewinds (whole_of told) p given_up }

-- the item that came and waits; a directory or a file has this name, and bytes wait elsewhere
abbrev pub held_of : List ℕ → Option Found → Option Fed
held_of name None = None
held_of name (Some (Found.Bytes count)) = None
held_of name (Some found) = Some (fed_found name [] found)

-- what is to come to one: the item that waits, and then what its source was made to give
abbrev pub told_to : {S E : Type 0} → (S → Option Told) → (S → List ℕ) → FedBackup S E → Option Told
told_to told name b = told_with (told b.source) (held_of (name b.source) b.found)

-- one as it is, by what its source was told, the name that came last, why the source failed, and whether it may begin again
abbrev pub feeder_of : {S E : Type 0} → (S → Option Told) → (S → List ℕ) → (S → E → Type 0) → Type 0 → FedBackup S E → Feeder
feeder_of told name failed rewinds b = feeder b.backup (told_to told name b) b.room (failed b.source) rewinds b.given_up

abbrev pub job_of : Feeder → FedJob
job_of f = record { who = who_in f.backup.session; whole = whole_of f.told }

-- of who asks, with a source that was told this
abbrev pub fed_job : Asker → Option Told → FedJob
fed_job who told = record { who = who; whole = whole_of told }

-- the items that were fed were welcome, none of them before the lock was granted, and are the source's, so far and once they are over; and where somebody gave up by them there is a reason
pub record IsFedRight (whole : Option (List Fed)) (gave : Bool) (fs : Trace) : Type 0 where
  pub welcome : AreWelcome fs
  pub late : IsFedLate fs
  pub so_far : NobodyGaveUp (fed_in fs) → IsOnTheWay whole (place_of (fed_in fs))
  pub told : IsAsTold whole (place_of (fed_in fs))
  pub reason : WasGivenUp (fed_in fs) → gave ≡ true

-- so were those at each exchange
abbrev pub AreFedRight : Option (List Fed) → Bool → Trace → Type 0
AreFedRight whole gave [] = ⊤
AreFedRight whole gave (e ∷ fs) = IsFedRight whole gave (e ∷ fs) × AreFedRight whole gave fs

-- these bytes were read of what comes, and then come these
abbrev pub WasRead : List ℕ → List Fed → List Fed → Type 0
WasRead [] coming then = coming ≡ then
WasRead (b ∷ bytes) coming then = ComesFirst (fed_bytes (b ∷ bytes)) coming then

-- what came from the source was taken, each item where those before it lead, and leads here, except the bytes that wait; and nothing of what it was made to give is behind its end
abbrev pub HasCome : Option Told → Place → List ℕ → Type 0
HasCome None p rest = ⊤
HasCome (Some told) p rest = EndsThere told.whole × ((here : List Fed) × IsAt told.whole p here × WasRead rest here told.coming)

-- its backup stands where the exchanges leave it, with these items between them; where there is a reason somebody gave up by them, before they ended
pub record IsFed (f : Feeder) (es fs : Trace) : Type 0 where
  pub same : unfed fs ≡ es
  pub at : FitsPieces f.backup fs
  pub right : AreFedRight (whole_of f.told) f.gave fs
  pub gone : f.gave ≡ true → WasGivenUp (fed_in fs) × ((place_of (fed_in fs)).over ≡ false)

-- it goes on, or its snapshot is stored
abbrev pub IsWell : Option Outcome → Type 0
IsWell outcome = (outcome ≡ None) ⊎ ((name : Name) × (blobs : ℕ) × (bytes : ℕ) × (outcome ≡ Some (Outcome.Stored name blobs bytes)))

-- and while it goes on, and where its snapshot is stored, all that came from the source was fed, or waits, unless somebody gave up; and the source failed where that is the reason, and,
-- while it goes on or where its snapshot is stored, nowhere else
pub record IsFedUpto (f : Feeder) (es fs : Trace) : Type 0 where
  pub fed : IsFed f es fs
  pub come : IsWell (ended_in f.backup.session) → NobodyGaveUp (fed_in fs) → HasCome f.told (place_of (fed_in fs)) f.rest
  pub caused : (f.gave ≡ true) ⊎ IsWell (ended_in f.backup.session) → f.cause (place_of (fed_in fs))

-- it does so with some items, and wants no input
pub record FitsFed (f : Feeder) (es : Trace) : Type 0 where
  pub fs : Trace
  pub upto : IsFedUpto f es fs
  pub full : ¬ IsHungry f.backup

-- it went ahead of a reply: a put is pending, with some items before it; and were it done, the backup would stand where more items lead, so far
pub record IsAhead (f : Feeder) (request : Request) (es : Trace) : Type 0 where
  pub fs : Trace
  pub same : unfed fs ≡ es
  pub awaited : PieceAwaits f.backup request fs
  pub right : AreFedRight (whole_of f.told) false fs
  pub more : Trace
  pub upto : IsFedUpto f (silent request.ask Say.Done ∷ es) more

-- ---- as a client, where it went ahead of the reply to this request, or to none

abbrev pub StandsFed : Feeder → Option Request → Trace → Type 0
StandsFed f None es = FitsFed f es
StandsFed f (Some request) es = IsAhead f request es

abbrev pub next_of : PieceBackup → Option Request → Option Request
next_of b None = next_in b.session
next_of b (Some request) = Some request

abbrev pub ended_of : PieceBackup → Option Request → Option Outcome
ended_of b None = ended_in b.session
ended_of b (Some request) = None

abbrev pub token_of : PieceBackup → Option Request → Option Token
token_of b None = token_in b.session
token_of b (Some request) = Some b.session.head.holder.token

-- a put is pending
abbrev pub IsPutting : Option Request → Type 0
IsPutting None = ⊥
IsPutting (Some request) = IsPut request.ask

-- the reason, where it is that the source failed
abbrev pub failing_in : {E : Type 0} → Option (GivenUp E) → Option (GivenUp E)
failing_in None = None
failing_in (Some (GivenUp.Source error)) = Some (GivenUp.Source error)
failing_in (Some (GivenUp.Refused error)) = None
failing_in (Some GivenUp.Endless) = None

-- the reason that is told: while a reply is awaited only that the source failed
abbrev pub told_reason : {E : Type 0} → Option Request → Option (GivenUp E) → Option (GivenUp E)
told_reason None given_up = given_up
told_reason (Some request) given_up = failing_in given_up

-- ---- what its calls do

-- more was fed, or nothing
abbrev pub FeedsOn : Feeder → Feeder → Type 0
FeedsOn old new = (es fs : Trace) → IsFedUpto old es fs → (more : Trace) × IsFedUpto new es more

-- nothing was fed, and what came may be lost; there is this cause to give up
abbrev pub FeedsPart : {E : Type 0} → (E → Type 0) → GivenUp E → Feeder → Feeder → Type 0
FeedsPart failed reason old new = (es fs : Trace) → IsFedUpto old es fs → IsFed new es fs × Justifies failed (whole_of new.told) (place_of (fed_in fs)) reason

-- it stands as before, though an item that came may wait
abbrev pub FeedsStill : Feeder → Feeder → Type 0
FeedsStill old new = (es fs : Trace) → IsFedUpto old es fs → IsFedUpto new es fs

-- more was fed, or nothing, until there was no memory
abbrev pub FeedsShort : {E : Type 0} → (E → Type 0) → GivenUp E → Feeder → Feeder → Type 0
FeedsShort failed reason old new = (es fs : Trace) → IsFedUpto old es fs → (more : Trace) × IsFedUpto new es more × Justifies failed (whole_of new.told) (place_of (fed_in more)) reason

-- its source didn't fail
abbrev pub IsRefusal : {E : Type 0} → GivenUp E → Type 0
IsRefusal (GivenUp.Source error) = ⊥
IsRefusal (GivenUp.Refused error) = ⊤
IsRefusal GivenUp.Endless = ⊥

-- it was given up for this reason, where that is so
abbrev pub GivesUp : {E : Type 0} → (E → Type 0) → Type 0 → GivenUp E → Feeder → Feeder → Type 0
GivesUp failed rewinds reason old new = (es fs : Trace) → IsFed old es fs → IsReason failed rewinds (whole_of old.told) (place_of (fed_in fs)) reason → FitsFed new es

-- more was fed, or it was given up, and now it wants no input
abbrev pub FeedsUp : Feeder → Feeder → Type 0
FeedsUp old new = (es fs : Trace) → IsFedUpto old es fs → FitsFed new es

-- it stands before the reply to this request, of the reading, as if that hadn't come
abbrev pub FeedsAgain : Request → Feeder → Feeder → Type 0
FeedsAgain letter old new = (e : Exchange) (es fs : Trace) → letter.ask ≡ e.ask → IsListedOrGot e.ask → letter.instance ≡ (who_in old.backup.session).instance → letter.sequence ≡ length es + 1 → IsFedUpto old (e ∷ es) fs → FitsFed new es

-- feeding once gives up because of the source, or of an item, and for nothing else
abbrev pub GaveUpAtOnce : {E : Type 0} → Option (GivenUp E) → Option (GivenUp E) → Type 0
GaveUpAtOnce old new = new ≡ Some GivenUp.Endless → old ≡ Some GivenUp.Endless
