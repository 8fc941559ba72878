-- A list of items, fed to a backup that is answered from a shelf.
use Rattle.std.specs.Prelude.{◌≡◌, ◌≢◌, ◌⊎◌, ◌≤◌, ◌<◌, ◌+◌, ◌^◌, ◌++◌, ◌∷◌, [], ⊤, ℕ, List, length, take, Option, None, Result, Ok, Err}
use Rattle.repo_store.specs.Laws.{greatest_count}
use Rattle.repo_store.specs.Stores.{Store}
use Rattle.repo_session.specs.Alone.{RanBy, ToldNoFault}
use Rattle.repo_session.specs.Feeds.{fed_bytes}
use Rattle.repo_session.specs.Sessions.{next_in}
use Rattle.repo_session.specs.Talks.{MayBeAhead}
use Rattle.repo_session.specs.Traces.{Trace, fed_in, feeding}
use Rattle.repo_session.specs.declared.outcomes.Outcome.{Outcome}
use Rattle.repo_session.specs.declared.stepping.StepError.{StepError}
use Rattle.repo_backup.specs.Folders.{joined}
use Rattle.repo_backup.specs.ItemLaws.{fed_pieces}
use Rattle.repo_backup.specs.Items.{Feeding, ItemFault, IsCountOf, fed_of, fed_part, place_of}
use Rattle.repo_backup.specs.PieceBackups.{FitsPieces, IsHungry}
use Rattle.repo_backup.specs.declared.item_steps.ItemsError.{ItemsError}
use Rattle.repo_backup.specs.declared.items.FeedError.{FeedError}
use Rattle.repo_backup.specs.declared.items.Item.{Item}
use Rattle.repo_backup.specs.declared.piece_backups.PieceBackup.{PieceBackup}

-- ---- what was fed

-- behind old items the first n bytes of a piece were fed, in parts
abbrev pub ArePartsFed : ℕ → List ℕ → Feeding → Feeding → Type 0
ArePartsFed n bytes old new = (parts : List (List ℕ)) × (joined parts ≡ take n bytes) × (new ≡ fed_pieces parts old)

-- an item was fed: a piece whole, in parts; another item as it is
abbrev pub IsFed : Item → Feeding → Feeding → Type 0
IsFed (Item.Bytes piece) old new = ArePartsFed (length piece.now) piece.now old new
IsFed item old new = new ≡ fed_of item ∷ old

-- an item was fed, or of a piece some first bytes
abbrev pub IsBegun : Item → Feeding → Feeding → Type 0
IsBegun (Item.Bytes piece) old new = (n : ℕ) × ArePartsFed n piece.now old new
IsBegun item old new = new ≡ fed_of item ∷ old

-- these items were fed, one behind another
abbrev pub AreFed : List Item → Feeding → Feeding → Type 0
AreFed [] old new = new ≡ old
AreFed (item ∷ items) old new = (mid : Feeding) × IsFed item old mid × AreFed items mid new

-- some first ones of the items were fed, and perhaps first bytes of the next
pub record AreBegun (items : List Item) (old new : Feeding) : Type 0 where
  pub whole : List Item
  pub left : List Item
  pub all : items ≡ whole ++ left
  pub mid : Feeding
  pub fed : AreFed whole old mid
  pub next : (new ≡ mid) ⊎ ((item : Item) × (more : List Item) × (left ≡ item ∷ more) × IsBegun item mid new)

-- of a piece the first n bytes were fed, in parts, and what is left of it has this first fault; of another item nothing was fed, and it has it
abbrev pub IsUnfed : Item → ℕ → FeedError → Feeding → Feeding → Type 0
IsUnfed (Item.Bytes piece) n e old new = (n ≤ length piece.now) × (rest : List ℕ) × (take n piece.now ++ rest ≡ piece.now) × ArePartsFed n piece.now old new × ItemFault (place_of new) (fed_bytes rest) e
IsUnfed item n e old new = (n ≡ 0) × (new ≡ old) × ItemFault (place_of old) (fed_of item) e

-- the items before this place were fed, and the one at it wasn't, but for so many first bytes, where it is a piece
pub record AreFedUpto (place taken : ℕ) (e : FeedError) (items : List Item) (old new : Feeding) : Type 0 where
  pub whole : List Item
  pub item : Item
  pub left : List Item
  pub all : items ≡ whole ++ item ∷ left
  pub place_is : length whole ≡ place
  pub mid : Feeding
  pub fed : AreFed whole old mid
  pub unfed : IsUnfed item taken e mid new

-- ---- what comes of it

-- so many exchanges more
abbrev pub AreMore : ℕ → Trace → Trace → Type 0
AreMore n es now = length now ≡ n + length es

-- 2^32 exchanges more, or more than these
abbrev pub AreTooMany : Trace → Trace → Type 0
AreTooMany es now = 2 ^ 32 + length es ≤ length now

-- what answering what is pending gives
abbrev pub StepGives : Result ℕ StepError → Trace → Trace → Type 0
StepGives (Ok n) es now = (fed_in now ≡ fed_in es) × AreMore n es now
StepGives (Err StepError.Limit) es now = (fed_in now ≡ fed_in es) × AreTooMany es now
StepGives (Err StepError.Memory) es now = fed_in now ≡ fed_in es

-- so many bytes of the item were fed
abbrev pub IsTaken : Item → Trace → Trace → Type 0
IsTaken item es now = (n : ℕ) × IsCountOf n item × (fed_in now ≡ fed_part n item ∷ fed_in es)

-- why not all items were fed, by why the answers ended
abbrev pub items_error : StepError → ItemsError
items_error StepError.Limit = ItemsError.Limit
items_error StepError.Memory = ItemsError.Memory

-- what feeding an item once, and answering what is pending then, gives; of a piece so many bytes were taken before
abbrev pub OnceGives : ℕ → ℕ → Item → Result (ℕ × ℕ) ItemsError → Trace → Trace → Type 0
OnceGives place taken item (Ok (n, asked)) es now = (fed_in now ≡ fed_part n item ∷ fed_in es) × AreMore asked es now
OnceGives place taken item (Err ItemsError.Limit) es now = IsTaken item es now × AreTooMany es now
OnceGives place taken item (Err ItemsError.Memory) es now = IsTaken item es now
OnceGives place taken item (Err (ItemsError.Feed at n e)) es now = (at ≡ place) × (n ≡ taken) × (now ≡ es) × ItemFault (place_of (fed_in es)) (fed_of item) e

-- what feeding an item whole gives
abbrev pub ItemGives : ℕ → Item → Result ℕ ItemsError → Option Outcome → Trace → Trace → Type 0
ItemGives place item (Ok n) ended es now = AreMore n es now × (IsFed item (fed_in es) (fed_in now) ⊎ ((ended ≢ None) × IsBegun item (fed_in es) (fed_in now)))
ItemGives place item (Err ItemsError.Limit) ended es now = IsBegun item (fed_in es) (fed_in now) × AreTooMany es now
ItemGives place item (Err ItemsError.Memory) ended es now = IsBegun item (fed_in es) (fed_in now)
ItemGives place item (Err (ItemsError.Feed at n e)) ended es now = (at ≡ place) × IsUnfed item n e (fed_in es) (fed_in now)

-- what feeding all items gives: on Ok it was fed them all and has no outcome, or it has one, and was fed some first ones
abbrev pub ItemsGive : List Item → Result ℕ ItemsError → Option Outcome → Trace → Trace → Type 0
ItemsGive items (Ok n) ended es now = AreMore n es now × (((ended ≡ None) × AreFed items (fed_in es) (fed_in now)) ⊎ ((ended ≢ None) × AreBegun items (fed_in es) (fed_in now)))
ItemsGive items (Err ItemsError.Limit) ended es now = AreBegun items (fed_in es) (fed_in now) × AreTooMany es now
ItemsGive items (Err ItemsError.Memory) ended es now = AreBegun items (fed_in es) (fed_in now)
ItemsGive items (Err (ItemsError.Feed place taken e)) ended es now = AreFedUpto place taken e items (fed_in es) (fed_in now)

-- where an item wasn't taken the backup wants input as before
abbrev pub WantsStill : ItemsError → PieceBackup → Type 0
WantsStill (ItemsError.Feed place taken e) backup = IsHungry backup
WantsStill e backup = ⊤

-- items that were fed, the newest first, one behind another
abbrev pub feeding_all : Feeding → Trace → Trace
feeding_all [] es = es
feeding_all (item ∷ items) es = feeding item (feeding_all items es)

-- the exchanges go on from these: newer ones stand before them, and items may have been fed after the newest of these
abbrev pub Extends : Trace → Trace → Type 0
Extends es now = (more : Trace) × (items : Feeding) × (now ≡ more ++ feeding_all items es)

-- where it stands then: the exchanges go on from those before, and led on from the same store; the store may have gone one step further, on what is pending;
-- and where the count of failures stayed, below its greatest, no fault was told
pub record StandsOn (Gives : Trace → Trace → Type 0) (start : Store) (es : Trace) (failed : ℕ) (new : PieceBackup) (to : Store) (failing : ℕ) : Type 0 where
  pub now : Trace
  pub fits : FitsPieces new now
  pub extends : Extends es now
  pub mid : Store
  pub ran : RanBy start now mid
  pub ahead : MayBeAhead mid (next_in new.session) to
  pub gives : Gives es now
  pub counted : failed ≤ failing
  pub calm : failing ≡ failed → failed < greatest_count → ToldNoFault es → ToldNoFault now

-- whatever exchanges the backup stood at, and whatever store they led on to this one, it stands now at some that go on from there
abbrev pub GoesOn : (Trace → Trace → Type 0) → PieceBackup → Store → ℕ → PieceBackup → Store → ℕ → Type 0
GoesOn Gives old from failed new to failing = (start : Store) (es : Trace) → FitsPieces old es → RanBy start es from → StandsOn Gives start es failed new to failing
