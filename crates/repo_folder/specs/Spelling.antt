-- The store that the files of a folder spell.
use Rattle.std.specs.Prelude.{◌≡◌, ◌⊎◌, ◌==◌, ◌&&◌, ℕ, Bool, true, false, nat_lt, List, [], ◌∷◌, length, codes, Option, Some, None, Result, Ok, Err, if◌then◌else◌}
use Rattle.repo_name.specs.declared.kinds.Kind.{Kind}
use Rattle.repo_name.specs.declared.names.Name.{Name}
use Rattle.repo_name.specs.Naming.{hex_of}
use Rattle.repo_name.specs.declared.tokens.Token.{Token}
use Rattle.repo_locks.specs.TokenMachine.{Tokens, start, live_as}
use Rattle.repo_locks.specs.Lawful.{IsLedger}
use Rattle.repo_locks.specs.LedgerBytes.{ledger_bytes}
use Rattle.repo_store.specs.Laws.{HasCause}
use Rattle.repo_store.specs.Stores.{Store}
use Rattle.repo_store.specs.declared.shelves.ShelfError.{ShelfError}
use Rattle.repo_disk.specs.declared.disks.DiskError.{DiskError}
use Rattle.repo_disk.specs.declared.rooms.Room.{Room}
use Rattle.repo_disk.specs.Disks.{State}
use Rattle.repo_folder.specs.Folders.{Puts}
use Rattle.repo_folder.specs.Ledgers.{first_of, tokens_in}

-- what each name in each folder has
abbrev pub Files : Type 0
Files = Room → List ℕ → Option (List ℕ)

-- numbers below 256
abbrev pub are_bytes : List ℕ → Bool
are_bytes [] = true
are_bytes (b ∷ bs) = if nat_lt b 256 then are_bytes bs else false

-- a name of 32 bytes
abbrev pub is_name : Name → Bool
is_name n = (length n.0 == 32) && are_bytes n.0

-- the folder of an object; its file has its name, in lower-case hexadecimal
abbrev pub room_of : Kind → Name → Room
room_of Kind.Pack n = Room.Packs (first_of n.0)
room_of Kind.Index n = Room.Indexes
room_of Kind.Snapshot n = Room.Snapshots

-- the names of the config's file and of the ledger's
abbrev pub config_name : List ℕ
config_name = codes "config"

abbrev pub ledger_name : List ℕ
ledger_name = codes "ledger"

-- the bytes of an object
abbrev pub object_in : Files → Kind → Name → Option (List ℕ)
object_in files kind n = if is_name n then files (room_of kind n) (hex_of n) else None

-- the store that files spell
abbrev pub spelled : Files → Store
spelled files = record { config = files Room.Top config_name; objects = object_in files; tokens = tokens_in (files Room.Top ledger_name); append_only = false }

-- this ledger stands in its file
abbrev pub Stands : Files → Tokens → Type 0
Stands files l = IsLedger l × (files Room.Top ledger_name ≡ Some (ledger_bytes l))

-- files have a ledger
abbrev pub HasLedger : Files → Type 0
HasLedger files = (l : Tokens) × Stands files l

-- how a token's lock is live, as the ledger that stands in its file tells it
abbrev pub StandsLive : Files → Token → Option Bool → Type 0
StandsLive files token live = (l : Tokens) × Stands files l × (live ≡ live_as l token)

-- files of which none is a store's yet but a fresh ledger
pub record IsBegun (files : Files) : Type 0 where
  pub ledger : (files Room.Top ledger_name ≡ None) ⊎ (files Room.Top ledger_name ≡ Some (ledger_bytes start))
  pub config : files Room.Top config_name ≡ None
  pub objects : (k : Kind) (n : Name) → object_in files k n ≡ None

-- a fresh ledger is put where there is none; else nothing changes
abbrev pub BeginsLedger : State → State → Type 0
BeginsLedger = Puts Room.Top ledger_name (ledger_bytes start)

-- what a disk's failure is to a shelf
abbrev pub shelf_error : DiskError → ShelfError
shelf_error DiskError.Failed = ShelfError.Fault
shelf_error DiskError.Memory = ShelfError.Memory

-- what a shelf tells of what came of a call
abbrev pub told : {T : Type 0} → Result T DiskError → Result T ShelfError
told (Ok x) = Ok x
told (Err e) = Err (shelf_error e)

-- the count of failures doesn't fall, and an error that is a fault is told only where it rose, or stands at its greatest
abbrev pub IsCaused : ℕ → ShelfError → ℕ → Type 0
IsCaused old error new = HasCause {T = Unit {0}} old (Err error) new
