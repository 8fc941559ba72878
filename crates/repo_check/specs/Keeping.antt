-- What is kept of trees that read: what they lead to, and what joins them to other parts of a directory.
use Rattle.std.specs.Prelude.{◌≢◌, [], Bool, true, false, List, Option, Some, None}
use Rattle.repo_name.specs.declared.names.Name.{Name}
use Rattle.repo_tree.specs.declared.nodes.Node.{Node}
use Rattle.repo_reach.specs.Joints.{IsJoint, MayFollow, tree_next}
use Rattle.repo_reach.specs.Links.{LeadTo}
use Rattle.repo_reach.specs.Walks.{links_in_part}
use Rattle.repo_reach.specs.declared.joints.Next.{Next}
use Rattle.repo_reach.specs.declared.links.Links.{Links}
use Rattle.repo_check.specs.declared.keeping.Kept.{Kept}

-- the code's own: this is kept of a tree of these nodes, whose member `next` is this
pub record Keeps (nodes : List Node) (next : Next) (kept : Kept) : Type 0 where
  pub lead : LeadTo nodes kept.links
  pub joint : IsJoint nodes next kept.joint

-- what is kept of each tree that reads
abbrev pub KeptTrees : Type 0
KeptTrees = Name → Option Kept

-- what the nodes of a tree lead to, as a part of a directory or as a directory by itself: where it is no part's text, none are read of a part
abbrev pub links_kept : Kept → Bool → Option Links
links_kept kept true = links_in_part kept.joint.next (Some kept.links)
links_kept kept false = Some kept.links

abbrev pub links_of : Option Kept → Bool → Option Links
links_of None follows = None
links_of (Some kept) follows = links_kept kept follows

-- the content of one that was read; none of another
abbrev pub content_within : Option Links → List Name
content_within None = []
content_within (Some links) = links.content.items

-- the tree in which it goes on: a directory by itself goes on in none
abbrev pub next_kept : Kept → Bool → Option Name
next_kept kept true = tree_next kept.joint.next
next_kept kept false = None

abbrev pub next_of : Option Kept → Bool → Option Name
next_of None follows = None
next_of (Some kept) follows = next_kept kept follows

-- the one behind is a part's text, and may not come after the one before
abbrev pub StandsWrong : Kept → Kept → Type 0
StandsWrong before behind = (behind.joint.next ≢ Next.Malformed) × ¬ MayFollow before.joint.ends behind.joint.ends
