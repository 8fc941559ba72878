-- Where a walk over trees stands.
use Rattle.std.specs.Prelude.{◌≡◌, ◌≢◌, ◌<◌, ◌≤◌, ◌⊎◌, ◌+◌, ◌++◌, ◌∷◌, [], ⊤, ℕ, zero, suc, Bool, true, false, List, length, take, drop, slice_get, Option, Some, None}
use Rattle.repo_name.specs.declared.kinds.BlobKind.{BlobKind}
use Rattle.repo_name.specs.declared.names.Name.{Name}
use Rattle.repo_index.specs.declared.facts.Fact.{Fact}
use Rattle.repo_tree.specs.declared.entries.Entry.{Entry}
use Rattle.repo_tree.specs.declared.nodes.Node.{Node}
use Rattle.repo_tree.specs.declared.nodes.NodeKind.{NodeKind}
use Rattle.repo_tree.specs.Parts.{Blobs, IsPart, IsTree}
use Rattle.repo_tree.specs.TreeText.{AreInOrder}
use Rattle.repo_tree.specs.Spelling.{Joined, NodesSpell, Spells, greatest_depth, dir_entry}
use Rattle.repo_session.specs.declared.emissions.Emission.{Emission}
use Rattle.repo_session.specs.Catalogs.{IsBlobNowhere}
use Rattle.repo_session.specs.Rebuilding.{rebuilt, Follow}
use Rattle.repo_session.specs.Traces.{Each}
use Rattle.repo_session.specs.Trees.{Under, IsNodeAt}
use Rattle.repo_restore.specs.declared.nodes.Filed.{Filed}
use Rattle.repo_restore.specs.declared.nodes.Level.{Level}
use Rattle.repo_restore.specs.Beginnings.{IsBeginning}
use Rattle.repo_restore.specs.Positions.{ComesBehind, LaterHaveNodes, nodes_in}
use Rattle.repo_restore.specs.Restoring.{Sums}

-- what a walk may give out: directories and files that received trees have at their paths, each file only where its blobs have places and its size; and
-- content that was received
abbrev pub WalkGives : List Fact → ℕ → Blobs → Name → Emission → Type 0
WalkGives facts version B root (Emission.Dir path) = (subtree : Name) × IsNodeAt version B root path (NodeKind.Dir subtree)
WalkGives facts version B root (Emission.File path) = (size : ℕ) × (content : List Name) × IsNodeAt version B root path (NodeKind.File size content) × Sums facts content size
WalkGives facts version B root (Emission.Piece bytes) = B BlobKind.Content bytes
WalkGives facts version B root Emission.Close = ⊤

-- a file is open where a content blob is waited for
abbrev pub is_open : BlobKind → Bool
is_open BlobKind.Content = true
is_open BlobKind.Tree = false

-- what a walk gave out behind what was given before: each part is one that it may give out, and all of it stands in order, with a file open behind it or none
pub record WalkGave (facts : List Fact) (version : ℕ) (B : Blobs) (root : Name) (within : Bool) (old out : List Emission) : Type 0 where
  pub each : Each (WalkGives facts version B root) out
  pub order : Follow false (old ++ out) within

-- what it gave out where it ends: all of it is a beginning of what the root spells
pub record WalkStopped (facts : List Fact) (version : ℕ) (B : Blobs) (root : Name) (old out : List Emission) : Type 0 where
  pub each : Each (WalkGives facts version B root) out
  pub begins : IsBeginning version B root (old ++ out)

-- what is left of a size after so many bytes, if they aren't more
abbrev pub LeftOf : Option ℕ → ℕ → ℕ → Type 0
LeftOf None size total = size < total
LeftOf (Some left) size total = left + total ≡ size

-- the first of these content blobs that the facts give no place
pub record LacksFirst (facts : List Fact) (content : List Name) (name : Name) : Type 0 where
  pub earlier : List Name
  pub later : List Name
  pub total : ℕ
  pub all : content ≡ earlier ++ name ∷ later
  pub sums : Sums facts earlier total
  pub none : IsBlobNowhere facts BlobKind.Content name

-- what looking up a file's blobs gives
abbrev pub Files : List Fact → ℕ → List Name → Filed → Type 0
Files facts size content Filed.Even = Sums facts content size
Files facts size content (Filed.Missing name) = LacksFirst facts content name
Files facts size content Filed.Uneven = (total : ℕ) × Sums facts content total × (total ≢ size)

-- by the version of a snapshot, the tree is a part of these nodes, which goes on in this tree; in one tree a directory goes on in none
abbrev pub PartIs : ℕ → Blobs → Name → List Node → Option Name → Type 0
PartIs (suc (suc zero)) B t nodes next = IsPart B t nodes next
PartIs _ B t nodes next = IsTree B t nodes × (next ≡ None)

-- Of the directory of the first tree, whose path isn't too long, the part that is given out was received, and so were those before it; and what they and
-- its first nodes spell is known.
pub record IsOpenLevel (version : ℕ) (B : Blobs) (root first tree : Name) (path : List (List ℕ)) (nodes : List Node) (next : Option Name) (begun : ℕ) (inside : List Entry) : Type 0 where
  pub parts : List (List Node)
  pub behind : ComesBehind version B first parts tree
  pub later : LaterHaveNodes parts
  pub full : parts ≢ [] → nodes ≢ []
  pub under : Under version B root path tree
  pub within : length path ≤ greatest_depth
  pub read : PartIs version B tree nodes next
  pub ordered : AreInOrder (nodes_in parts ++ nodes)
  pub shallow : (length path < greatest_depth) ⊎ (nodes_in parts ++ nodes ≡ [])
  pub spelled : NodesSpell B (Spells version B) path (nodes_in parts ++ take begun nodes) inside

-- a directory of which one node is begun
pub record DirectoryIsBegun (version : ℕ) (B : Blobs) (root first : Name) (level : Level) (inside : List Entry) (node : Node) : Type 0 where
  pub at : ℕ
  pub counts : level.begun ≡ at + 1
  pub node_is : slice_get level.nodes.items at ≡ Some node
  pub opened : IsOpenLevel version B root first level.tree level.path level.nodes.items level.next at inside

-- the open directories lead from the root to a directory's tree at a path; all that was given out before its nodes are these entries
abbrev pub LeadsOn : ℕ → Blobs → Name → Name → List (List ℕ) → List Entry → List Level → Name → List (List ℕ) → List Entry → Type 0
LeadsOn version B root from path outer [] tree last all = (tree ≡ from) × (last ≡ path) × (all ≡ outer)
LeadsOn version B root from path outer (level ∷ levels) tree last all = (inside : List Entry) × (node : Node) × (subtree : Name) × (level.path ≡ path) × DirectoryIsBegun version B root from level inside node
    × (node.what ≡ NodeKind.Dir subtree) × LeadsOn version B root subtree (path ++ node.name ∷ []) (outer ++ inside ++ dir_entry (path ++ node.name ∷ []) ∷ []) levels tree last all

-- a level of the open ones, whose first nodes were given out
pub record AtLevel (version : ℕ) (B : Blobs) (root : Name) (levels : List Level) (depth begun : ℕ) (level : Level) (all : List Entry) : Type 0 where
  pub first : Name
  pub before : List Entry
  pub inside : List Entry
  pub level_is : slice_get levels depth ≡ Some level
  pub leads : LeadsOn version B root root [] [] (take depth levels) first level.path before
  pub opened : IsOpenLevel version B root first level.tree level.path level.nodes.items level.next begun inside
  pub whole : all ≡ before ++ inside

-- so many levels are open: none where all was given out
abbrev pub AtOpen : ℕ → Blobs → Name → List Level → ℕ → ℕ → List Entry → Type 0
AtOpen version B root levels zero begun all = Spells version B root [] all
AtOpen version B root levels (suc depth) begun all = (level : Level) × AtLevel version B root levels depth begun level all

-- pieces alone, of these bytes
abbrev pub ArePieces : List Emission → List ℕ → Type 0
ArePieces [] bytes = bytes ≡ []
ArePieces (Emission.Piece first ∷ more) bytes = (rest : List ℕ) × ArePieces more rest × (bytes ≡ first ++ rest)
ArePieces (Emission.Dir path ∷ more) bytes = ⊥
ArePieces (Emission.File path ∷ more) bytes = ⊥
ArePieces (Emission.Close ∷ more) bytes = ⊥

-- a file is open at a path: these entries came before it, and these bytes of it
pub record IsWriting (emitted : List Emission) (before : List Entry) (path : List (List ℕ)) (bytes : List ℕ) : Type 0 where
  pub first : List Emission
  pub last : List Emission
  pub split : emitted ≡ first ++ Emission.File path ∷ last
  pub entries : rebuilt first ≡ before
  pub written : ArePieces last bytes

-- a file of which some blobs were given out, and what is left of its size
pub record IsFile (facts : List Fact) (B : Blobs) (size : ℕ) (content : List Name) (sent : ℕ) (bytes : List ℕ) : Type 0 where
  pub joined : Joined B (take sent content) bytes
  pub left : ℕ
  pub sums : Sums facts (drop sent content) left
  pub even : length bytes + left ≡ size
