-- The pairs that a walk came upon, as a value.
use Rattle.std.specs.Prelude.{◌≡◌, ◌<◌, ◌⊎◌, ◌↔◌, ℕ, Bool, IsTrue, List, slice_get, Some}
use Rattle.std.specs.BTreeSet.{BTreeSet, contains}
use Rattle.repo_name.specs.Naming.{name_cmp}
use Rattle.repo_name.specs.declared.kinds.BlobKind.{BlobKind}
use Rattle.repo_name.specs.declared.kinds.BlobKind.TheVariants.{Content, Tree}
use Rattle.repo_name.specs.declared.names.Name.{Name}
use Rattle.repo_tree.specs.Spelling.{greatest_depth}
use Rattle.repo_reach.specs.Laws.{HoldsAt}
use Rattle.repo_reach.specs.Walks.{WasAt, links_by}
use Rattle.repo_reach.specs.declared.looks.Seen.{Seen}
use Rattle.repo_reach.specs.declared.used.Used.{Used}

-- a name is in a set
abbrev pub IsIn : BTreeSet Name → Name → Type 0
IsIn set n = IsTrue (contains name_cmp set n)

-- a pair is one of these
abbrev pub UsedHasPair : Used → BlobKind → Name → Type 0
UsedHasPair used Tree n = IsIn used.trees n
UsedHasPair used Content n = IsIn used.content n

-- a tree that was seen gives a pair: itself, if it was looked at, and its content, if it was above the greatest depth
abbrev pub GivesPair : Seen → BlobKind → Name → Type 0
GivesPair seen Tree n = (seen.name ≡ n) × (follows : Bool) × (depth : ℕ) × WasAt seen follows depth
GivesPair seen Content n = (follows : Bool) × (depth : ℕ) × HoldsAt seen follows depth n

-- it is looked at at a depth above the greatest so that its nodes are read
pub record IsListed (seen : Seen) : Type 0 where
  pub follows : Bool
  pub depth : ℕ
  pub above : depth < greatest_depth
  pub was : WasAt seen follows depth
  pub read : links_by follows seen ≡ seen.links

-- one of them gives it
abbrev pub GivenBy : List Seen → BlobKind → Name → Type 0
GivenBy all k n = (i : ℕ) × (seen : Seen) × (slice_get all i ≡ Some seen) × GivesPair seen k n

-- the pairs of a kind that a tree gives came to those that were there
abbrev pub PairsHaveJoined : BlobKind → Used → Seen → Used → Type 0
PairsHaveJoined kind old seen new = (n : Name) → UsedHasPair new kind n ↔ (UsedHasPair old kind n ⊎ GivesPair seen kind n)

-- the pairs that a tree gives came to those that were there
abbrev pub HaveJoined : Used → Seen → Used → Type 0
HaveJoined old seen new = (k : BlobKind) (n : Name) → UsedHasPair new k n ↔ (UsedHasPair old k n ⊎ GivesPair seen k n)
