-- Where visits stand in an index.
use Rattle.std.specs.Prelude.{◌≡◌, ◌+◌, ◌*◌, ◌⊎◌, ℕ, Bool, true, false, List, slice_get, Option, Some}
use Rattle.std.specs.BTreeMap.{BTreeMap}
use Rattle.repo_name.specs.NameMaps.{found}
use Rattle.repo_name.specs.declared.names.Name.{Name}
use Rattle.repo_check.specs.declared.visiting.Visit.{Visit}

-- where the map of a depth and a way stands in an index
abbrev pub slot_by : Bool → ℕ → ℕ
slot_by true depth = 2 * depth + 1
slot_by false depth = 2 * depth

abbrev pub slot_of : Visit → ℕ
slot_of v = slot_by v.follows v.depth

-- an index gives the place of each visit, by its tree
abbrev pub IsIndexed : List (BTreeMap Name ℕ) → List Visit → Type 0
IsIndexed index visits = (i : ℕ) (v : Visit) → slice_get visits i ≡ Some v → (map : BTreeMap Name ℕ) × (slice_get index (slot_of v) ≡ Some map) × (found map v.tree ≡ Some i)

-- what an index says of the place of a visit, if it has its slot
abbrev pub SaysPlace : List (BTreeMap Name ℕ) → Visit → Option ℕ → Type 0
SaysPlace index v place = (map : BTreeMap Name ℕ) → slice_get index (slot_of v) ≡ Some map → place ≡ found map v.tree

-- an index has the maps of another one
abbrev pub HasMaps : List (BTreeMap Name ℕ) → List (BTreeMap Name ℕ) → Type 0
HasMaps old new = (i : ℕ) (map : BTreeMap Name ℕ) → slice_get old i ≡ Some map → slice_get new i ≡ Some map

-- what an index gave it gives, but for this tree in this slot
abbrev pub KeepsPlaces : List (BTreeMap Name ℕ) → ℕ → Name → List (BTreeMap Name ℕ) → Type 0
KeepsPlaces old slot n new = (i : ℕ) (map : BTreeMap Name ℕ) → slice_get old i ≡ Some map → (now : BTreeMap Name ℕ) × (slice_get new i ≡ Some now) × ((m : Name) → (found now m ≡ found map m) ⊎ ((i ≡ slot) × (m ≡ n)))

-- and the place of that one is this now
abbrev pub GivesPlace : List (BTreeMap Name ℕ) → ℕ → Name → ℕ → Type 0
GivesPlace index slot n place = (map : BTreeMap Name ℕ) × (slice_get index slot ≡ Some map) × (found map n ≡ Some place)
