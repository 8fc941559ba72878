-- A disk: what each of a store's folders has, what that comes to, and what each call does to it.
use Rattle.std.specs.Prelude.{◌≡◌, ◌⊎◌, ◌∷◌, [], ◌≤◌, ◌<◌, ◌-◌, ◌^◌, ◌↔◌, ⊤, ℕ, Bool, true, false, List, length, Option, Some, None, option_map, is_some, Result, Ok, Err}
use Rattle.repo_name.specs.Ranges.{range}
use Rattle.repo_disk.specs.declared.disks.DiskError.{DiskError}
use Rattle.repo_disk.specs.declared.files.File.{File}
use Rattle.repo_disk.specs.declared.files.Part.{Part}
use Rattle.repo_disk.specs.declared.rooms.Room.{Room}

-- What has each name in each folder now; what it comes to; and whether a folder lasts: no power cut takes it away.
-- What a name comes to, if nothing is changed any more, is what its folder's next sync that succeeds makes last, or what the next cut leaves, whichever
-- is first. Nobody can know this before; each call says what it may be.
pub record State : Type 0 where
  pub now : Room → List ℕ → Option File
  pub fate : Room → List ℕ → Option (List ℕ)
  pub lasting : Room → Bool

-- a folder stands in another one
abbrev pub StandsIn : Room → Room → Type 0
StandsIn Room.Top above = ⊥
StandsIn (Room.Packs first) above = above ≡ Room.Data
StandsIn room above = above ≡ Room.Top

-- what a name has, as bytes
abbrev pub seen : State → Room → List ℕ → Option (List ℕ)
seen s room name = option_map (λ file. file.bytes) (s.now room name)

-- what a name that has this can come to: nothing else, but that a file whose bytes weren't synced comes to any bytes
abbrev pub Leaves : Option File → Option (List ℕ) → Type 0
Leaves None left = left ≡ None
Leaves (Some file) left = (bytes : List ℕ) × (left ≡ Some bytes) × (file.lasts ≡ true → bytes ≡ file.bytes)

-- what each name in a folder comes to is what it has
abbrev pub IsDecided : State → Room → Type 0
IsDecided s room = (name : List ℕ) → Leaves (s.now room name) (s.fate room name)

-- ---- changes

-- nothing changes but among the files that are being written
pub record ChangesDrafts (old new : State) : Type 0 where
  pub now : (r : Room) (n : List ℕ) → (r ≡ Room.Temporary) ⊎ (new.now r n ≡ old.now r n)
  pub fate : (r : Room) (n : List ℕ) → (r ≡ Room.Temporary) ⊎ (new.fate r n ≡ old.fate r n)
  pub lasting : new.lasting ≡ old.lasting

-- a name of a folder is given this, or loses what it has. It comes to this, or to what it came to before. Nothing else changes but among the files that
-- are being written.
pub record Gives (room : Room) (name : List ℕ) (given : Option File) (old new : State) : Type 0 where
  pub here : new.now room name ≡ given
  pub comes : (room ≡ Room.Temporary) ⊎ ((new.fate room name ≡ old.fate room name) ⊎ Leaves given (new.fate room name))
  pub now : (r : Room) (n : List ℕ) → (r ≡ Room.Temporary) ⊎ (((r ≡ room) × (n ≡ name)) ⊎ (new.now r n ≡ old.now r n))
  pub fate : (r : Room) (n : List ℕ) → (r ≡ Room.Temporary) ⊎ (((r ≡ room) × (n ≡ name)) ⊎ (new.fate r n ≡ old.fate r n))
  pub lasting : new.lasting ≡ old.lasting

-- the file that was written there is given a name in a folder, in place of what has it
abbrev pub Places : List ℕ → Room → List ℕ → State → State → Type 0
Places draft room name old new = (file : File) × (old.now Room.Temporary draft ≡ Some file) × Gives room name (Some file) old new

-- a folder is made where it isn't there; that it lasts isn't known
pub record MakesRoom (room : Room) (old new : State) : Type 0 where
  pub now : new.now ≡ old.now
  pub fate : new.fate ≡ old.fate
  pub lasting : (r : Room) → (r ≡ room) ⊎ (new.lasting r ≡ old.lasting r)

-- No name changes, and what lasts does so still. In a folder that lasts itself the folders that stand there last, and each name comes to what it has.
pub record IsSynced (room : Room) (old new : State) : Type 0 where
  pub now : new.now ≡ old.now
  pub fate : new.fate ≡ old.fate
  pub stays : (r : Room) → old.lasting r ≡ true → new.lasting r ≡ true
  pub below : (r : Room) → StandsIn r room → old.lasting room ≡ true → new.lasting r ≡ true
  pub decided : old.lasting room ≡ true → IsDecided old room

-- ---- calls

-- a reading call: what it gives is right, and nothing changes
abbrev pub Looks : {T : Type 0} → (T → Type 0) → State → Result T DiskError → State → Type 0
Looks P old (Ok x) new = P x × (new ≡ old)
Looks P old (Err e) new = new ≡ old

-- a change: it is made; on a failure it may be made; without memory it isn't
abbrev pub Makes : (State → State → Type 0) → State → Result (Unit {0}) DiskError → State → Type 0
Makes W old (Ok done) new = W old new
Makes W old (Err DiskError.Failed) new = ChangesDrafts old new ⊎ W old new
Makes W old (Err DiskError.Memory) new = ChangesDrafts old new

-- a name is taken away, if something has it; on a failure it may be taken away; without memory it isn't
abbrev pub Takes : Room → List ℕ → State → Result Bool DiskError → State → Type 0
Takes room name old (Ok true) new = (is_some (seen old room name) ≡ true) × Gives room name None old new
Takes room name old (Ok false) new = (seen old room name ≡ None) × (new ≡ old)
Takes room name old (Err DiskError.Failed) new = ChangesDrafts old new ⊎ Gives room name None old new
Takes room name old (Err DiskError.Memory) new = ChangesDrafts old new

-- a file is written whole under a name among those that are being written; its bytes don't last yet
abbrev pub Drafts : List ℕ → List ℕ → State → Result (Unit {0}) DiskError → State → Type 0
Drafts name bytes old (Ok done) new = ChangesDrafts old new × (new.now Room.Temporary name ≡ Some (record { bytes = bytes; lasts = false }))
Drafts name bytes old (Err e) new = ChangesDrafts old new

-- the bytes of the file that was written there last from now on
abbrev pub DraftLasts : List ℕ → State → Result (Unit {0}) DiskError → State → Type 0
DraftLasts name old (Ok done) new = ChangesDrafts old new
    × ((file : File) → old.now Room.Temporary name ≡ Some file → new.now Room.Temporary name ≡ Some (record { bytes = file.bytes; lasts = true }))
DraftLasts name old (Err e) new = ChangesDrafts old new

-- a folder's sync, which takes no memory; where it fails nothing is known
abbrev pub Syncs : Room → State → Result (Unit {0}) DiskError → State → Type 0
Syncs room old (Ok done) new = IsSynced room old new
Syncs room old (Err DiskError.Failed) new = new ≡ old
Syncs room old (Err DiskError.Memory) new = ⊥

-- after a power cut each name has what it came to, and all that is there lasts
pub record IsCut (old new : State) : Type 0 where
  pub left : (r : Room) (n : List ℕ) → new.fate r n ≡ old.fate r n
  pub decided : (r : Room) → IsDecided new r
  pub lasts : (r : Room) (n : List ℕ) (file : File) → new.now r n ≡ Some file → file.lasts ≡ true
  pub lasting : (r : Room) → new.lasting r ≡ true

-- ---- what the calls give

-- what a file, if it is there, has at an offset and a length
abbrev pub IsPart : Option (List ℕ) → ℕ → ℕ → Part → Type 0
IsPart file offset len (Part.Found bytes) = (whole : List ℕ) × (file ≡ Some whole) × (range whole offset len ≡ Some bytes)
IsPart file offset len Part.Missing = file ≡ None
IsPart file offset len Part.Outside = (whole : List ℕ) × (file ≡ Some whole) × (range whole offset len ≡ None)

-- a part that is found has the length asked for
abbrev pub HasLength : ℕ → Part → Type 0
HasLength len (Part.Found bytes) = length bytes ≡ len
HasLength len Part.Missing = ⊤
HasLength len Part.Outside = ⊤

-- a text stands in the list
abbrev pub Has : List (List ℕ) → List ℕ → Type 0
Has [] n = ⊥
Has (m ∷ names) n = (n ≡ m) ⊎ Has names n

-- the names that have something, all of them and no others
abbrev pub IsListing : (List ℕ → Option File) → List (List ℕ) → Type 0
IsListing now names = (n : List ℕ) → Has names n ↔ (is_some (now n) ≡ true)

-- the greatest count of failures, where the count stays
abbrev pub greatest_count : ℕ
greatest_count = 2 ^ 64 - 1

-- the count of failures doesn't fall, and a failure is told only where it rose, or stands at its greatest
abbrev pub HasCause : {T : Type 0} → ℕ → Result T DiskError → ℕ → Type 0
HasCause old (Ok x) new = old ≤ new
HasCause old (Err DiskError.Failed) new = (old ≤ new) × ((old < new) ⊎ (new ≡ greatest_count))
HasCause old (Err DiskError.Memory) new = old ≤ new
