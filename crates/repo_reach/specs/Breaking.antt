-- Why no directory has a tree to which roots lead.
use Rattle.std.specs.Prelude.{◌≡◌, ◌≢◌, ◌≤◌, ◌⊎◌, ◌++◌, [], ℕ, Bool, true, List, Option, Some, Contains}
use Rattle.repo_name.specs.Naming as naming
use Rattle.repo_name.specs.declared.names.Name.{Name}
use Rattle.repo_tree.specs.declared.nodes.Node.{Node}
use Rattle.repo_tree.specs.Parts.{IsPart, ListsBy}
use Rattle.repo_tree.specs.Spelling.{greatest_depth}
use Rattle.repo_tree.specs.TreeText.{AreInOrder}
use Rattle.repo_reach.specs.Collected.{tree_blobs, version_by, LeadsTo}
use Rattle.repo_reach.specs.Joints.{IsNoPartText}
use Rattle.repo_reach.specs.declared.roots.Root.{Root}

-- it has nodes at the greatest depth
pub record IsTooLow (texts : List (List ℕ)) (roots : List Root) (n : Name) : Type 0 where
  pub follows : Bool
  pub nodes : List Node
  pub leads : LeadsTo texts roots follows greatest_depth n
  pub lists : ListsBy (version_by follows) (tree_blobs texts) n nodes
  pub some : nodes ≢ []

-- it is a part of a directory, and its text is that of no part
pub record IsMalformed (texts : List (List ℕ)) (roots : List Root) (n : Name) : Type 0 where
  pub depth : ℕ
  pub within : depth ≤ greatest_depth
  pub leads : LeadsTo texts roots true depth n
  pub text : List ℕ
  pub among : Contains texts text
  pub called : naming.name text ≡ n
  pub no_part : IsNoPartText text

-- a part goes on in it, and it has no node, or its names don't ascend behind those of that part
pub record IsMisplaced (texts : List (List ℕ)) (roots : List Root) (n : Name) : Type 0 where
  pub depth : ℕ
  pub within : depth ≤ greatest_depth
  pub part : Name
  pub nodes : List Node
  pub behind : List Node
  pub next : Option Name
  pub leads : LeadsTo texts roots true depth part
  pub before : IsPart (tree_blobs texts) part nodes (Some n)
  pub after : IsPart (tree_blobs texts) n behind next
  pub wrong : (behind ≡ []) ⊎ ¬ AreInOrder (nodes ++ behind)

-- one of these
abbrev pub IsBroken : List (List ℕ) → List Root → Name → Type 0
IsBroken texts roots n = IsTooLow texts roots n ⊎ IsMalformed texts roots n ⊎ IsMisplaced texts roots n
