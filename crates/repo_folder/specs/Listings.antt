-- The names of the objects in a folder, and a set that they join.
use Rattle.std.specs.Prelude.{◌≡◌, ◌⊎◌, ◌≤◌, ◌<◌, ℕ, true, List, Option, Some, None, is_some}
use Rattle.repo_name.specs.declared.kinds.Kind.{Kind}
use Rattle.repo_name.specs.declared.names.Name.{Name}
use Rattle.repo_name.specs.Naming.{hex_of, IsName}
use Rattle.repo_store.specs.Kept.{NameSet, is_in}
use Rattle.repo_store.specs.Pages.{Above}
use Rattle.repo_disk.specs.Disks.{Has}
use Rattle.repo_disk.specs.declared.rooms.Room.{Room}
use Rattle.repo_folder.specs.Ledgers.{first_of}
use Rattle.repo_folder.specs.Spelling.{room_of}

-- new is old, and names of a kind that belong into a folder and whose texts are listed; all of those above the given one, if one is given
pub record JoinsListed (kind : Kind) (room : Room) (after : Option Name) (texts : List (List ℕ)) (old new : NameSet) : Type 0 where
  pub stay : (n : Name) → is_in old n ≡ true → is_in new n ≡ true
  pub join : (n : Name) → IsName n → room_of kind n ≡ room → Above after n → Has texts (hex_of n) → is_in new n ≡ true
  pub only : (n : Name) → is_in new n ≡ true → (is_in old n ≡ true) ⊎ (IsName n × (room_of kind n ≡ room) × Has texts (hex_of n))

-- new is old, and names of the objects in a folder; all of those above the given one, if one is given
pub record JoinsRoom (kind : Kind) (room : Room) (after : Option Name) (files : List ℕ → Option (List ℕ)) (old new : NameSet) : Type 0 where
  pub stay : (n : Name) → is_in old n ≡ true → is_in new n ≡ true
  pub join : (n : Name) → IsName n → room_of kind n ≡ room → Above after n → is_some (files (hex_of n)) ≡ true → is_in new n ≡ true
  pub only : (n : Name) → is_in new n ≡ true → (is_in old n ≡ true) ⊎ (IsName n × (room_of kind n ≡ room) × (is_some (files (hex_of n)) ≡ true))

-- the least first byte of a name above the given one, if one is given
abbrev pub least_first : Option Name → ℕ
least_first None = 0
least_first (Some after) = first_of after.0

-- names of packs with a first byte below one; all of those above the given name, if one is given
pub record ArePacks (after : Option Name) (high : ℕ) (files : Room → List ℕ → Option (List ℕ)) (names : NameSet) : Type 0 where
  pub join : (n : Name) → IsName n → least_first after ≤ first_of n.0 → first_of n.0 < high → Above after n → is_some (files (room_of Kind.Pack n) (hex_of n)) ≡ true → is_in names n ≡ true
  pub only : (n : Name) → is_in names n ≡ true → IsName n × (first_of n.0 < high) × (is_some (files (room_of Kind.Pack n) (hex_of n)) ≡ true)
