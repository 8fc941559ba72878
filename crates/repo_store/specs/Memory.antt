use Rattle.std.specs.Prelude.{◌≡◌, ◌⊎◌, ◌≤◌, ◌++◌, ◌∷◌, ℕ, Bool, true, false, List, length, Option, Some, None}
use Rattle.std.specs.BTreeMap.{BTreeMap}
use Rattle.std.specs.BTreeMap.Range.{entries_between}
use Rattle.std.specs.Map.{keys_of}
use Rattle.std.specs.declared.ops.Bound.{Bound}
use Rattle.std.specs.declared.ops.Bound.TheVariants.{Excluded, Unbounded}
use Rattle.repo_name.specs.declared.kinds.Kind.{Kind}
use Rattle.repo_name.specs.declared.names.Name.{Name}
use Rattle.repo_name.specs.NameMaps.{found}
use Rattle.repo_name.specs.Naming.{name_cmp}
use Rattle.repo_store.specs.declared.memory.MemShelf.{MemShelf}
use Rattle.repo_store.specs.Stores.{Objects, Store}

-- the objects of a shelf in memory: one map for each kind
abbrev pub objects_of : MemShelf → Objects
objects_of shelf Kind.Pack n = found shelf.packs n
objects_of shelf Kind.Index n = found shelf.indexes n
objects_of shelf Kind.Snapshot n = found shelf.snapshots n

-- what a shelf in memory stores
abbrev pub store_of : MemShelf → Store
store_of shelf = record { config = shelf.config; objects = objects_of shelf; tokens = shelf.ledger; append_only = false }

-- new is old with these bytes under a name, if nothing was there
pub record AddedIn (old : Name → Option (List ℕ)) (name : Name) (bytes : List ℕ) (new : Name → Option (List ℕ)) : Type 0 where
  pub kept : (n : Name) (x : List ℕ) → old n ≡ Some x → new n ≡ Some x
  pub only : (n : Name) (x : List ℕ) → new n ≡ Some x → (old n ≡ Some x) ⊎ ((n ≡ name) × (x ≡ bytes))
  pub here : (x : List ℕ) × (new name ≡ Some x)

-- new is old without what stood under a name
pub record RemovedIn (old : Name → Option (List ℕ)) (name : Name) (new : Name → Option (List ℕ)) : Type 0 where
  pub kept : (n : Name) (x : List ℕ) → old n ≡ Some x → (new n ≡ Some x) ⊎ (n ≡ name)
  pub only : (n : Name) (x : List ℕ) → new n ≡ Some x → old n ≡ Some x
  pub gone : new name ≡ None

-- the bound below the names above the given one, if one is given
abbrev pub bound_of : Option Name → Bound Name
bound_of None = Unbounded
bound_of (Some after) = Excluded after

-- a map's names above the given one, in order
abbrev pub above : {X : Type 0} → Option Name → BTreeMap Name X → List Name
above after map = keys_of (entries_between name_cmp (bound_of after) Unbounded map.entries)

-- the first of these names, at most so many, and whether some are left
abbrev pub IsFirstPart : List Name → ℕ → List Name → Bool → Type 0
IsFirstPart all limit names more =
    ((all ≡ names) × (length names ≤ limit) × (more ≡ false))
    ⊎ ((n : Name) × (rest : List Name) × (all ≡ names ++ n ∷ rest) × (length names ≡ limit) × (more ≡ true))
