use Rattle.std.specs.Prelude.{◌≡◌, ◌≢◌, ◌⊎◌, ◌≤◌, ◌<◌, ◌+◌, ⊤, ℕ, Bool, true, false, List, length, Option, Some, None, Result, Ok, Err}
use Rattle.repo_name.specs.declared.kinds.Kind.{Kind}
use Rattle.repo_name.specs.declared.names.Name.{Name}
use Rattle.repo_name.specs.declared.rows.LockRow.{LockRow}
use Rattle.repo_name.specs.declared.tokens.Token.{Token}
use Rattle.repo_name.specs.Naming as naming
use Rattle.repo_name.specs.Rows.{IsHost}
use Rattle.repo_wire.specs.declared.messages.Ask.{Ask}
use Rattle.repo_wire.specs.declared.messages.Code.{Code}
use Rattle.repo_wire.specs.declared.messages.Say.{Say}
use Rattle.repo_wire.specs.Messages.{page_limit}
use Rattle.repo_locks.specs.declared.outcomes.Grant.{Grant}
use Rattle.repo_locks.specs.declared.outcomes.LockError.{LockError}
use Rattle.repo_locks.specs.declared.outcomes.RefreshError.{RefreshError}
use Rattle.repo_locks.specs.declared.outcomes.TicketError.{TicketError}
use Rattle.repo_locks.specs.TokenMachine.{Tokens, live_as, is_fresh_or_live, TicketStep, LockStep, RefreshStep, UnlockStep}
use Rattle.repo_store.specs.declared.shelves.ShelfError.{ShelfError}
use Rattle.repo_store.specs.declared.shelves.Slice.{Slice}
use Rattle.repo_store.specs.Laws.{greatest_count}
use Rattle.repo_store.specs.Pages.{IsPage}
use Rattle.repo_store.specs.Slices.{IsSlice}
use Rattle.repo_store.specs.Stores.{Store, PutsObject, RemovesObject, SavesTokens}
use Rattle.repo_store.specs.Upgrades.{IsRaised, RaiseAnswer}
use Rattle.repo_name.specs.Limits.{blob_limit, index_limit, pack_limit, text_limit}

-- the most bytes of an object of each kind
abbrev pub object_limit : Kind → ℕ
object_limit Kind.Pack = pack_limit
object_limit Kind.Index = index_limit
object_limit Kind.Snapshot = text_limit

-- the most bytes of a config
abbrev pub config_limit : ℕ
config_limit = text_limit

-- the most bytes that are asked for of a pack at once
abbrev pub range_limit : ℕ
range_limit = blob_limit

-- a length that may be asked for of a pack
abbrev pub IsRangeLength : ℕ → Type 0
IsRangeLength len = (1 ≤ len) × (len ≤ range_limit)

-- what can be answered: a host that is asked with is within its limits
abbrev pub IsAnswerable : Ask → Type 0
IsAnswerable (Ask.Lock row) = IsHost row.host
IsAnswerable Ask.Ticket = ⊤
IsAnswerable (Ask.Refresh token time) = ⊤
IsAnswerable (Ask.Unlock token) = ⊤
IsAnswerable Ask.Locks = ⊤
IsAnswerable (Ask.List kind after) = ⊤
IsAnswerable (Ask.Get kind name) = ⊤
IsAnswerable (Ask.Range pack offset len) = ⊤
IsAnswerable (Ask.Put token kind name bytes) = ⊤
IsAnswerable (Ask.Delete token kind name) = ⊤
IsAnswerable Ask.Config = ⊤
IsAnswerable (Ask.Upgrade token) = ⊤

-- what is said of a ticket
abbrev pub TicketSays : Result Token TicketError → Say → Type 0
TicketSays (Ok token) say = say ≡ Say.Token token
TicketSays (Err TicketError.Exhausted) say = say ≡ Say.Refused Code.Exhausted
TicketSays (Err TicketError.Memory) say = ⊥

-- what is said of a lock
abbrev pub LockSays : Result Grant LockError → Say → Type 0
LockSays (Ok grant) say = say ≡ Say.Done
LockSays (Err LockError.Dead) say = say ≡ Say.Refused Code.Dead
LockSays (Err LockError.OtherKind) say = say ≡ Say.Refused Code.OtherKind
LockSays (Err LockError.Busy) say = say ≡ Say.Refused Code.Busy
LockSays (Err LockError.Full) say = say ≡ Say.Refused Code.Full
LockSays (Err LockError.Memory) say = ⊥

-- what is said of a refresh
abbrev pub RefreshSays : Result (Unit {0}) RefreshError → Say → Type 0
RefreshSays (Ok done) say = say ≡ Say.Done
RefreshSays (Err RefreshError.Dead) say = say ≡ Say.Refused Code.Dead

-- the token machine's steps, and what is said of them
pub record TicketAnswer (old : Store) (say : Say) (new : Store) : Type 0 where
  pub result : Result Token TicketError
  pub tokens : Tokens
  pub step : TicketStep old.tokens result tokens
  pub says : TicketSays result say
  pub saves : SavesTokens tokens old new

pub record LockAnswer (old : Store) (row : LockRow) (say : Say) (new : Store) : Type 0 where
  pub result : Result Grant LockError
  pub tokens : Tokens
  pub step : LockStep old.tokens row.token row.exclusive row.time row.host result tokens
  pub says : LockSays result say
  pub saves : SavesTokens tokens old new

pub record RefreshAnswer (old : Store) (token : Token) (time : ℕ) (say : Say) (new : Store) : Type 0 where
  pub result : Result (Unit {0}) RefreshError
  pub tokens : Tokens
  pub step : RefreshStep old.tokens token time result tokens
  pub says : RefreshSays result say
  pub saves : SavesTokens tokens old new

pub record UnlockAnswer (old : Store) (token : Token) (say : Say) (new : Store) : Type 0 where
  pub result : Bool
  pub tokens : Tokens
  pub step : UnlockStep old.tokens token result tokens
  pub says : say ≡ Say.Done
  pub saves : SavesTokens tokens old new

-- the live rows
abbrev pub LocksAnswer : Store → Say → Store → Type 0
LocksAnswer old say new = (say ≡ Say.LockList old.tokens.live) × (new ≡ old)

-- a page of names
abbrev pub ListAnswer : Store → Kind → Option Name → Say → Store → Type 0
ListAnswer old kind after say new = (names : List Name) × (more : Bool) × IsPage old.objects kind after page_limit names more × (say ≡ Say.Names more names) × (new ≡ old)

-- what is said of bytes that are there or not, and have a limit
abbrev pub GetSays : ℕ → Option (List ℕ) → Say → Type 0
GetSays limit None say = say ≡ Say.Refused Code.Missing
GetSays limit (Some bytes) say = ((length bytes ≤ limit) × (say ≡ Say.Bytes bytes)) ⊎ ((limit < length bytes) × (say ≡ Say.Refused Code.TooLarge))

-- an object whole
abbrev pub GetAnswer : Store → Kind → Name → Say → Store → Type 0
GetAnswer old kind name say new = GetSays (object_limit kind) (old.objects kind name) say × (new ≡ old)

-- the config
abbrev pub ConfigAnswer : Store → Say → Store → Type 0
ConfigAnswer old say new = GetSays config_limit old.config say × (new ≡ old)

-- what is said of a slice
abbrev pub SliceSays : Slice → Say → Type 0
SliceSays (Slice.Found bytes) say = say ≡ Say.Bytes bytes
SliceSays Slice.Missing say = say ≡ Say.Refused Code.Missing
SliceSays Slice.Outside say = say ≡ Say.Refused Code.Range

-- a part of a pack: first whether so many bytes may be asked for
abbrev pub RangeAnswer : Store → Name → ℕ → ℕ → Say → Store → Type 0
RangeAnswer old pack offset len say new =
    (¬ IsRangeLength len × (say ≡ Say.Refused Code.Malformed) × (new ≡ old))
    ⊎ (IsRangeLength len × ((slice : Slice) × IsSlice (old.objects Kind.Pack pack) offset len slice × SliceSays slice say) × (new ≡ old))

-- an object is put: first whether it is too large, then its token, then its name
abbrev pub PutAnswer : Store → Token → Kind → Name → List ℕ → Say → Store → Type 0
PutAnswer old token kind name bytes say new =
    ((object_limit kind < length bytes) × (say ≡ Say.Refused Code.TooLarge) × (new ≡ old))
    ⊎ (((length bytes ≤ object_limit kind) × (live_as old.tokens token ≡ None) × (say ≡ Say.Refused Code.Dead) × (new ≡ old))
    ⊎ (((length bytes ≤ object_limit kind) × (live_as old.tokens token ≢ None) × (naming.name bytes ≢ name) × (say ≡ Say.Refused Code.NameMismatch) × (new ≡ old))
    ⊎ ((length bytes ≤ object_limit kind) × (live_as old.tokens token ≢ None) × (naming.name bytes ≡ name) × (say ≡ Say.Done) × PutsObject kind name bytes old new)))

-- an object is removed, under an exclusive lock
abbrev pub RemoveAnswer : Store → Token → Kind → Name → Say → Store → Type 0
RemoveAnswer old token kind name say new =
    ((live_as old.tokens token ≡ None) × (say ≡ Say.Refused Code.Dead) × (new ≡ old))
    ⊎ (((live_as old.tokens token ≡ Some false) × (say ≡ Say.Refused Code.NotExclusive) × (new ≡ old))
    ⊎ ((live_as old.tokens token ≡ Some true) × (say ≡ Say.Done) × RemovesObject kind name old new))

-- a deletion: a store that only appends refuses it before all else, whatever the token is
abbrev pub DeleteAnswer : Store → Token → Kind → Name → Say → Store → Type 0
DeleteAnswer old token kind name say new =
    ((old.append_only ≡ true) × (say ≡ Say.Refused Code.AppendOnly) × (new ≡ old))
    ⊎ ((old.append_only ≡ false) × RemoveAnswer old token kind name say new)

-- the config is to be of version 2, under an exclusive lock; also where the store only appends
abbrev pub UpgradeAnswer : Store → Token → Say → Store → Type 0
UpgradeAnswer old token say new =
    ((live_as old.tokens token ≡ None) × (say ≡ Say.Refused Code.Dead) × (new ≡ old))
    ⊎ (((live_as old.tokens token ≡ Some false) × (say ≡ Say.Refused Code.NotExclusive) × (new ≡ old))
    ⊎ ((live_as old.tokens token ≡ Some true) × RaiseAnswer old.config old say new))

-- the answers of a store whose device doesn't fail
abbrev pub Answers : Store → Ask → Say → Store → Type 0
Answers old Ask.Ticket say new = TicketAnswer old say new
Answers old (Ask.Lock row) say new = LockAnswer old row say new
Answers old (Ask.Refresh token time) say new = RefreshAnswer old token time say new
Answers old (Ask.Unlock token) say new = UnlockAnswer old token say new
Answers old Ask.Locks say new = LocksAnswer old say new
Answers old (Ask.List kind after) say new = ListAnswer old kind after say new
Answers old (Ask.Get kind name) say new = GetAnswer old kind name say new
Answers old (Ask.Range pack offset len) say new = RangeAnswer old pack offset len say new
Answers old (Ask.Put token kind name bytes) say new = PutAnswer old token kind name bytes say new
Answers old (Ask.Delete token kind name) say new = DeleteAnswer old token kind name say new
Answers old Ask.Config say new = ConfigAnswer old say new
Answers old (Ask.Upgrade token) say new = UpgradeAnswer old token say new

-- a request that isn't answered before the device is looked at
abbrev pub Looks : Store → Ask → Type 0
Looks old Ask.Ticket = ⊤
Looks old (Ask.Lock row) = ⊤
Looks old (Ask.Refresh token time) = ⊤
Looks old (Ask.Unlock token) = ⊤
Looks old Ask.Locks = ⊤
Looks old (Ask.List kind after) = ⊤
Looks old (Ask.Get kind name) = ⊤
Looks old (Ask.Range pack offset len) = IsRangeLength len
Looks old (Ask.Put token kind name bytes) = length bytes ≤ object_limit kind
Looks old (Ask.Delete token kind name) = old.append_only ≡ false
Looks old Ask.Config = ⊤
Looks old (Ask.Upgrade token) = ⊤

-- in place of an answer: the device failed, before the answer's change or after it; or there was no memory, and nothing changed
abbrev pub Fails : Store → (Say → Store → Type 0) → Say → Store → Type 0
Fails old A say new =
    ((say ≡ Say.Refused Code.Fault) × ((new ≡ old) ⊎ ((other : Say) × A other new)))
    ⊎ ((say ≡ Say.Refused Code.NoMemory) × (new ≡ old))

-- from old, the store may say this to what is asked, and go on to new
abbrev pub Step : Store → Ask → Say → Store → Type 0
Step old ask say new = Answers old ask say new ⊎ (Looks old ask × Fails old (λ other after. Answers old ask other after) say new)

-- the count of failures doesn't fall, and a fault is told only where it rose, or stands at its greatest
abbrev pub SaysFault : ℕ → Say → ℕ → Type 0
SaysFault old say new = (old ≤ new) × (say ≡ Say.Refused Code.Fault → (old < new) ⊎ (new ≡ greatest_count))

-- of the device's calls one at most told a fault, and then that is what is said
abbrev pub SaysItsFault : ℕ → Say → ℕ → Type 0
SaysItsFault old say new = (new ≤ old + 1) × (say ≢ Say.Refused Code.Fault → new ≡ old)

-- the device isn't asked to write for this: it is only read for; or a lock is live as it is asked for, or a number to be unlocked is neither fresh nor live,
-- or the config that is to be of version 2 is so already
abbrev pub IsQuiet : Store → Ask → Type 0
IsQuiet old Ask.Ticket = ⊥
IsQuiet old (Ask.Lock row) = live_as old.tokens row.token ≡ Some row.exclusive
IsQuiet old (Ask.Refresh token time) = ⊥
IsQuiet old (Ask.Unlock token) = is_fresh_or_live old.tokens token ≡ false
IsQuiet old Ask.Locks = ⊤
IsQuiet old (Ask.List kind after) = ⊤
IsQuiet old (Ask.Get kind name) = ⊤
IsQuiet old (Ask.Range pack offset len) = ⊤
IsQuiet old (Ask.Put token kind name bytes) = ⊥
IsQuiet old (Ask.Delete token kind name) = ⊥
IsQuiet old Ask.Config = ⊤
IsQuiet old (Ask.Upgrade token) = IsRaised old

-- the reading calls that a request may make of the device: one for the ledger, for names, for an object or for the config; an upgrade may make two
abbrev pub reads_of : Ask → ℕ
reads_of (Ask.Upgrade token) = 2
reads_of _ = 1

-- it is refused, and not for the device's failure or for want of memory
abbrev pub IsRuledOut : Say → Type 0
IsRuledOut (Say.Token token) = ⊥
IsRuledOut Say.Done = ⊥
IsRuledOut (Say.Names more names) = ⊥
IsRuledOut (Say.Bytes bytes) = ⊥
IsRuledOut (Say.LockList rows) = ⊥
IsRuledOut (Say.Refused code) = (code ≢ Code.Fault) × (code ≢ Code.NoMemory)

-- the refusal for a call of the device that failed
abbrev pub refusal : ShelfError → Say
refusal ShelfError.Fault = Say.Refused Code.Fault
refusal ShelfError.Memory = Say.Refused Code.NoMemory

-- the refusal for a lock that isn't granted
abbrev pub lock_refusal : LockError → Say
lock_refusal LockError.Dead = Say.Refused Code.Dead
lock_refusal LockError.OtherKind = Say.Refused Code.OtherKind
lock_refusal LockError.Busy = Say.Refused Code.Busy
lock_refusal LockError.Full = Say.Refused Code.Full
lock_refusal LockError.Memory = Say.Refused Code.NoMemory

-- after a refusal that isn't the device's the store is as before
abbrev pub RefusalsChangeNothing : Type 0
RefusalsChangeNothing = (old new : Store) (ask : Ask) (code : Code) → (code ≡ Code.Fault → ⊥) → Step old ask (Say.Refused code) new → new ≡ old
