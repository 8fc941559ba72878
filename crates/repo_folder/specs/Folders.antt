-- What a store's folder asks of its disk, and what its calls do there.
use Rattle.std.specs.Prelude.{◌≡◌, ◌⊎◌, ◌↔◌, ◌<◌, ⊤, ℕ, true, List, Option, Some, None, is_some, Result, Ok, Err}
use Rattle.repo_disk.specs.Disks.{State, seen, IsDecided, Has}
use Rattle.repo_disk.specs.declared.disks.DiskError.{DiskError}
use Rattle.repo_disk.specs.declared.files.File.{File}
use Rattle.repo_disk.specs.declared.rooms.Room.{Room}
use Rattle.repo_folder.specs.declared.folders.Standing.{Standing}

-- a folder of which something is kept: any but that of files that are being written
abbrev pub IsKept : Room → Type 0
IsKept Room.Temporary = ⊥
IsKept (Room.Packs first) = first < 256
IsKept room = ⊤

-- a folder lasts, and so does all that is visible in it
abbrev pub IsSettled : State → Room → Type 0
IsSettled s room = (s.lasting room ≡ true) × ((name : List ℕ) → s.fate room name ≡ seen s room name)

-- the disk is faithful; the store's own folder lasts, and each file's bytes; and, where that is noted, nothing that is visible may be undone
pub record IsHonest (Faithful : Type 0) (noted : Standing) (s : State) : Type 0 where
  pub faithful : Faithful
  pub top : s.lasting Room.Top ≡ true
  pub files : (r : Room) (n : List ℕ) (file : File) → IsKept r → s.now r n ≡ Some file → file.lasts ≡ true
  pub settled : noted ≡ Standing.Settled → (r : Room) → IsKept r → IsSettled s r

-- no name changes, and what lasts does so still
pub record IsSteady (old new : State) : Type 0 where
  pub now : new.now ≡ old.now
  pub fate : new.fate ≡ old.fate
  pub stays : (r : Room) → old.lasting r ≡ true → new.lasting r ≡ true

-- each name comes to what it has, in the folders of packs below a number that last
abbrev pub AreDecidedBelow : ℕ → State → Type 0
AreDecidedBelow limit s = (first : ℕ) → first < limit → s.lasting (Room.Packs first) ≡ true → IsDecided s (Room.Packs first)

-- each folder lasts, and each name in it comes to what it has
abbrev pub AreDecided : State → Type 0
AreDecided s = (r : Room) → IsKept r → (s.lasting r ≡ true) × IsDecided s r

-- what is kept comes to the same
abbrev pub Stays : State → State → Type 0
Stays old new = (r : Room) (n : List ℕ) → IsKept r → new.fate r n ≡ old.fate r n

-- a name of a folder comes to this, and all else that is kept to the same
pub record Comes (room : Room) (name : List ℕ) (to : Option (List ℕ)) (old new : State) : Type 0 where
  pub here : new.fate room name ≡ to
  pub others : (r : Room) (n : List ℕ) → IsKept r → ((r ≡ room) × (n ≡ name)) ⊎ (new.fate r n ≡ old.fate r n)

-- a call that only reads: what it gives is right, and what is kept stays, also where it fails
abbrev pub Shows : {T : Type 0} → (T → Type 0) → State → Result T DiskError → State → Type 0
Shows P old (Ok x) new = P x × Stays old new
Shows P old (Err e) new = Stays old new

-- a call that writes: it is made; on a failure it may be made; without memory it isn't
abbrev pub Keeps : (State → State → Type 0) → State → Result (Unit {0}) DiskError → State → Type 0
Keeps W old (Ok done) new = W old new
Keeps W old (Err DiskError.Failed) new = Stays old new ⊎ W old new
Keeps W old (Err DiskError.Memory) new = Stays old new

-- the names that come to something, all of them and no others
abbrev pub IsListed : (List ℕ → Option (List ℕ)) → List (List ℕ) → Type 0
IsListed fate names = (n : List ℕ) → Has names n ↔ (is_some (fate n) ≡ true)

-- what is known after a sync of the folder in which a name changed, where all was settled before
abbrev pub noted : Result (Unit {0}) DiskError → Standing
noted (Ok done) = Standing.Settled
noted (Err e) = Standing.Unsettled

-- a file is put where nothing has its name; else nothing changes
abbrev pub Puts : Room → List ℕ → List ℕ → State → State → Type 0
Puts room name bytes old new =
    ((x : List ℕ) × (old.fate room name ≡ Some x) × Stays old new) ⊎ ((old.fate room name ≡ None) × Comes room name (Some bytes) old new)

-- folders may be made, and no name changes
pub record IsMade (old new : State) : Type 0 where
  pub now : new.now ≡ old.now
  pub fate : new.fate ≡ old.fate
  pub top : old.lasting Room.Top ≡ true → new.lasting Room.Top ≡ true

-- nothing that is kept changes, and the store's own folder lasts still
pub record IsUntouched (old new : State) : Type 0 where
  pub now : (r : Room) (n : List ℕ) → IsKept r → new.now r n ≡ old.now r n
  pub fate : Stays old new
  pub top : old.lasting Room.Top ≡ true → new.lasting Room.Top ≡ true
