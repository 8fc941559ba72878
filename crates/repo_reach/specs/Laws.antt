-- What a walk that is done looked at.
use Rattle.std.specs.Prelude.{◌≡◌, ◌<◌, ◌≤◌, ◌↔◌, [], ℕ, Bool, List, length, slice_get, Some, Contains}
use Rattle.repo_name.specs.declared.kinds.BlobKind.{BlobKind}
use Rattle.repo_name.specs.declared.kinds.BlobKind.TheVariants.{Content, Tree}
use Rattle.repo_name.specs.declared.names.Name.{Name}
use Rattle.repo_tree.specs.Spelling.{greatest_depth}
use Rattle.repo_reach.specs.Collected.{IsReachedBy}
use Rattle.repo_reach.specs.Walks.{WasAt, IsLooked, IsWalk, links_by}
use Rattle.repo_reach.specs.declared.links.Links.{Links}
use Rattle.repo_reach.specs.declared.looks.Seen.{Seen}
use Rattle.repo_reach.specs.declared.trees.Trees.{Trees}

-- a tree was read so, is looked at so at a depth above the greatest, and has this content
pub record HoldsAt (seen : Seen) (follows : Bool) (depth : ℕ) (n : Name) : Type 0 where
  pub links : Links
  pub read : links_by follows seen ≡ Some links
  pub was : WasAt seen follows depth
  pub above : depth < greatest_depth
  pub among : Contains links.content.items n

-- the pairs that a walk came upon in one way: the trees that were looked at so, and the content of those that were above the greatest depth
abbrev pub IsUsedBy : List Seen → Bool → BlobKind → Name → Type 0
IsUsedBy all follows Tree n = (depth : ℕ) × IsLooked all n follows depth
IsUsedBy all follows Content n = (i : ℕ) × (seen : Seen) × (depth : ℕ) × (slice_get all i ≡ Some seen) × HoldsAt seen follows depth n

-- in any way
abbrev pub IsUsed : List Seen → BlobKind → Name → Type 0
IsUsed all k n = (follows : Bool) × IsUsedBy all follows k n

-- nothing is left to look at, and each tree that was seen was read
pub record IsWholeWalk (c : Trees) : Type 0 where
  pub waiting : c.waiting.items ≡ []
  pub roots : length c.roots.items ≤ c.root
  pub read : (i : ℕ) (seen : Seen) → slice_get c.seen.items i ≡ Some seen → (links : Links) × (seen.links ≡ Some links)

-- then what the walk came upon in a way is what the roots of this way reach, by the version of their snapshots
abbrev pub UsedIsReached : Type 0
UsedIsReached = (texts : List (List ℕ)) (c : Trees) → IsWalk texts c → IsWholeWalk c → (follows : Bool) (k : BlobKind) (n : Name) → IsReachedBy texts c.roots.items follows k n ↔ IsUsedBy c.seen.items follows k n
