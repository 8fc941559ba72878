-- What a disk in memory has, and what that comes to.
use Rattle.std.specs.Prelude.{◌≡◌, ◌⊎◌, ◌∷◌, [], ◌+◌, ◌==◌, ◌&&◌, ℕ, Bool, true, false, not, nat_eq, List, Option, Some, None, option_map, is_some, if◌then◌else◌}
use Rattle.std.specs.Cmp.Lexicographic.{pointwise}
use Rattle.repo_disk.specs.Disks.{State, Leaves}
use Rattle.repo_disk.specs.declared.files.File.{File}
use Rattle.repo_disk.specs.declared.logs.Cell.{Cell}
use Rattle.repo_disk.specs.declared.logs.Fate.{Fate}
use Rattle.repo_disk.specs.declared.memory.MemDisk.{MemDisk}
use Rattle.repo_disk.specs.declared.rooms.Room.{Room}
use Rattle.repo_disk.specs.declared.young.Young.{Young}

-- a folder's number
abbrev pub rank : Room → ℕ
rank Room.Top = 0
rank Room.Temporary = 1
rank Room.Data = 2
rank Room.Indexes = 3
rank Room.Snapshots = 4
rank (Room.Packs first) = 5 + first

-- a cell of the log is one of this name in this folder
abbrev pub is_at : Room → List ℕ → Cell → Bool
is_at room name cell = (rank cell.room == rank room) && pointwise nat_eq cell.name name

-- the newest cell of a name; the log has the newest ones first
abbrev pub latest : List Cell → Room → List ℕ → Option Cell
latest [] room name = None
latest (cell ∷ cells) room name = if is_at room name cell then Some cell else latest cells room name

-- what the name of a cell has
abbrev pub has_of : Option Cell → Option File
has_of None = None
has_of (Some cell) = cell.has

-- what a name that has this comes to
abbrev pub comes_to : Fate → Option File → Option (List ℕ)
comes_to Fate.AsNow has = option_map (λ file. file.bytes) has
comes_to (Fate.Other left) has = left

-- what the name of a cell comes to
abbrev pub fate_of : Option Cell → Option (List ℕ)
fate_of None = None
fate_of (Some cell) = comes_to cell.fate cell.has

-- a number stands in the list
abbrev pub is_among : List ℕ → ℕ → Bool
is_among [] n = false
is_among (m ∷ ms) n = if m == n then true else is_among ms n

-- a folder was made since the one above it was synced
abbrev pub is_young : Young → Room → Bool
is_young young Room.Top = false
is_young young Room.Temporary = young.temporary
is_young young Room.Data = young.data
is_young young Room.Indexes = young.indexes
is_young young Room.Snapshots = young.snapshots
is_young young (Room.Packs first) = is_among young.packs.items first

-- what a log and the young folders say of a disk
abbrev pub state_in : List Cell → Young → State
state_in cells young = record {
  now = λ room name. has_of (latest cells room name);
  fate = λ room name. fate_of (latest cells room name);
  lasting = λ room. not (is_young young room);
}

-- what a disk in memory has, what that comes to, and which folders last
abbrev pub state_of : MemDisk → State
state_of disk = state_in disk.cells.items disk.young

-- a fate is that of a choice: the name comes to what it is given now, or to what it came to before
abbrev pub IsChosen : Option File → Option (List ℕ) → Fate → Type 0
IsChosen given before fate = (comes_to fate given ≡ before) ⊎ Leaves given (comes_to fate given)

-- a cell is that of a name which is given this, above these cells
pub record IsGiven (cells : List Cell) (at : Room) (text : List ℕ) (given : Option File) (cell : Cell) : Type 0 where
  pub room : cell.room ≡ at
  pub name : cell.name ≡ text
  pub has : cell.has ≡ given
  pub fate : IsChosen given (fate_of (latest cells at text)) cell.fate

-- a cell's name comes to what it has
abbrev pub is_as_now : Option Cell → Bool
is_as_now None = true
is_as_now (Some cell) = as_now cell.fate
  where
    as_now : Fate → Bool
    as_now Fate.AsNow = true
    as_now (Fate.Other left) = false

-- of each of these cells in a folder, the newest one of its name comes to what it has
abbrev pub is_decided : List Cell → Room → List Cell → Bool
is_decided all room [] = true
is_decided all room (cell ∷ cells) =
    if rank cell.room == rank room then (if is_as_now (latest all room cell.name) then is_decided all room cells else false) else is_decided all room cells

-- the names of these cells in a folder that have something
abbrev pub listed : List Cell → Room → List Cell → List (List ℕ)
listed all room [] = []
listed all room (cell ∷ cells) =
    if rank cell.room == rank room then (if is_some (has_of (latest all room cell.name)) then cell.name ∷ listed all room cells else listed all room cells) else listed all room cells

-- a cell after a cut
abbrev pub left_of : Cell → Cell
left_of cell = record { room = cell.room; name = cell.name; has = option_map (λ bytes. record { bytes = bytes; lasts = true }) (comes_to cell.fate cell.has); fate = Fate.AsNow }
