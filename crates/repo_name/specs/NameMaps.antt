use Rattle.std.specs.Prelude.{◌≡◌, ◌⊎◌, Option, Some, None}
use Rattle.std.specs.BTreeMap as tree
use Rattle.std.specs.BTreeMap.{BTreeMap}
use Rattle.repo_name.specs.declared.names.Name.{Name}
use Rattle.repo_name.specs.Naming.{name_cmp}

-- what stands in a map under each name
abbrev pub found : {X : Type 0} → BTreeMap Name X → Name → Option X
found map n = tree.get name_cmp map n

-- new is old with x under the name n
pub record Inserted {X : Type 0} (old : Name → Option X) (n : Name) (x : X) (new : Name → Option X) : Type 0 where
  pub here : new n ≡ Some x
  pub others : (m : Name) → (m ≡ n) ⊎ (new m ≡ old m)

-- new is old without what stands under the name n
pub record Dropped {X : Type 0} (old : Name → Option X) (n : Name) (new : Name → Option X) : Type 0 where
  pub gone : new n ≡ None
  pub others : (m : Name) → (m ≡ n) ⊎ (new m ≡ old m)
