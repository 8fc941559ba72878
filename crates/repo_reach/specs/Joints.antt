-- A tree as a part of a directory: in which tree it goes on, and between which names its nodes are.
use Rattle.std.specs.Prelude.{◌≡◌, ◌∷◌, [], ⊤, ℕ, List, Option, Some, None}
use Rattle.std.specs.Ordering.{nat_cmp}
use Rattle.std.specs.declared.cmp.Ordering.{Ordering}
use Rattle.std.specs.Cmp.Lexicographic.{slice_cmp}
use Rattle.repo_name.specs.declared.names.Name.{Name}
use Rattle.repo_tree.specs.declared.nodes.Node.{Node}
use Rattle.repo_tree.specs.Parts.{IsPartText}
use Rattle.repo_tree.specs.TreeText.{IsTreeText, last_name}
use Rattle.repo_reach.specs.declared.joints.Ends.{Ends}
use Rattle.repo_reach.specs.declared.joints.Joint.{Joint}
use Rattle.repo_reach.specs.declared.joints.Next.{Next}

-- the text is that of no part
abbrev pub IsNoPartText : List ℕ → Type 0
IsNoPartText text = (nodes : List Node) (next : Option Name) → ¬ IsPartText text nodes next

-- the text is that of a tree of these nodes, and its member `next` is this
abbrev pub SaysNext : List ℕ → List Node → Next → Type 0
SaysNext text nodes Next.Absent = IsPartText text nodes None
SaysNext text nodes (Next.Tree n) = IsPartText text nodes (Some n)
SaysNext text nodes Next.Malformed = IsTreeText text nodes × IsNoPartText text

-- the names of the first and of the last of these nodes, if there are any
abbrev pub HasEnds : List Node → Option Ends → Type 0
HasEnds nodes None = nodes ≡ []
HasEnds nodes (Some ends) = (first : Node) × (more : List Node) × (nodes ≡ first ∷ more) × (ends.first ≡ first.name) × (last_name nodes ≡ Some ends.last)

-- the part of those behind may come after the part of those before: it has a node, and its first name is above the last one
abbrev pub MayFollow : Option Ends → Option Ends → Type 0
MayFollow before None = ⊥
MayFollow None (Some behind) = ⊤
MayFollow (Some before) (Some behind) = slice_cmp nat_cmp before.last behind.first ≡ Ordering.Less

-- the code's own: what is kept of a tree of these nodes, whose member `next` is this
pub record IsJoint (nodes : List Node) (next : Next) (joint : Joint) : Type 0 where
  pub next_is : joint.next ≡ next
  pub ends : HasEnds nodes joint.ends

-- the tree in which it goes on
abbrev pub tree_next : Next → Option Name
tree_next Next.Absent = None
tree_next (Next.Tree n) = Some n
tree_next Next.Malformed = None
