-- What the calls add to what is gathered.
use Rattle.std.specs.Prelude.{◌≡◌, ◌⊎◌, ◌↔◌, IsTrue, List, Contains}
use Rattle.std.specs.BTreeSet.{BTreeSet, contains}
use Rattle.repo_name.specs.Naming.{name_cmp}
use Rattle.repo_name.specs.declared.names.Name.{Name}
use Rattle.repo_reach.specs.declared.roots.Root.{Root}
use Rattle.repo_check.specs.Keeping.{KeptTrees}
use Rattle.repo_check.specs.Visiting.{BreaksHere, Gives, visit_of}
use Rattle.repo_check.specs.declared.visiting.Gift.{Gift}
use Rattle.repo_check.specs.declared.visiting.Visit.{Visit}

-- the tree of a visit breaks its directory by itself, and has this name
abbrev pub BreaksAs : KeptTrees → Visit → Name → Type 0
BreaksAs trees v n = BreaksHere trees v × (v.tree ≡ n)

-- new has the names of old, and such
abbrev pub AddsSuch : (Name → Type 0) → BTreeSet Name → BTreeSet Name → Type 0
AddsSuch Such old new = (n : Name) → IsTrue (contains name_cmp new n) ↔ (IsTrue (contains name_cmp old n) ⊎ Such n)

-- and these
abbrev pub AddsNames : BTreeSet Name → List Name → BTreeSet Name → Type 0
AddsNames old names new = AddsSuch (λ n. Contains names n) old new

-- and what a visit gives
abbrev pub AddsGiven : Gift → KeptTrees → BTreeSet Name → Visit → BTreeSet Name → Type 0
AddsGiven gift trees old v new = AddsSuch (λ n. Gives gift trees v n) old new

-- those of some roots are among them now, and no others came
pub record AddsRoots (old : List Visit) (roots : List Root) (new : List Visit) : Type 0 where
  pub all : (root : Root) → Contains roots root → Contains new (visit_of root)
  pub only : (v : Visit) → Contains new v → Contains old v ⊎ ((root : Root) × Contains roots root × (v ≡ visit_of root))
  pub stay : (v : Visit) → Contains old v → Contains new v
