-- Where a restore stands in its snapshot's tree, which blob comes next behind what was given out, and where a tree that does is broken.
use Rattle.std.specs.Prelude.{◌≡◌, ◌≢◌, ◌<◌, ◌≤◌, ◌⊎◌, ◌++◌, ◌∷◌, [], ⊤, ℕ, zero, suc, List, length, flat_map, Some}
use Rattle.repo_name.specs.Naming as naming
use Rattle.repo_name.specs.declared.kinds.BlobKind.{BlobKind}
use Rattle.repo_name.specs.declared.names.Name.{Name}
use Rattle.repo_tree.specs.declared.entries.Entry.{Entry}
use Rattle.repo_tree.specs.declared.nodes.Node.{Node}
use Rattle.repo_tree.specs.declared.nodes.NodeKind.{NodeKind}
use Rattle.repo_tree.specs.Parts.{Blobs, IsPart, ListsBy}
use Rattle.repo_tree.specs.Spelling.{NodesSpell, Spells, greatest_depth, dir_entry}
use Rattle.repo_tree.specs.TreeText.{AreInOrder}
use Rattle.repo_session.specs.declared.emissions.Emission.{Emission}
use Rattle.repo_session.specs.Rebuilding.{rebuilt, AreWhole}
use Rattle.repo_session.specs.Trees.{IsNoTree}
use Rattle.repo_restore.specs.Beginnings.{HasFirstNodes}

-- ---- the parts of a directory

-- from the first tree on, parts of these nodes lead on from one to the next, and the last one goes on in this tree; without parts it is the first
abbrev pub LeadsThrough : Blobs → Name → List (List Node) → Name → Type 0
LeadsThrough B first [] tree = tree ≡ first
LeadsThrough B first (nodes ∷ parts) tree = (next : Name) × IsPart B first nodes (Some next) × LeadsThrough B next parts tree

-- by a version, the tree belongs to the directory of the first one, right behind its first parts, which have these nodes; without parts it is the first
abbrev pub ComesBehind : ℕ → Blobs → Name → List (List Node) → Name → Type 0
ComesBehind (suc (suc zero)) B first parts tree = LeadsThrough B first parts tree
ComesBehind _ B first parts tree = (tree ≡ first) × (parts ≡ [])

-- each of them has a node; and each but the first
abbrev pub HaveNodes : List (List Node) → Type 0
HaveNodes [] = ⊤
HaveNodes (nodes ∷ parts) = (nodes ≢ []) × HaveNodes parts

abbrev pub LaterHaveNodes : List (List Node) → Type 0
LaterHaveNodes [] = ⊤
LaterHaveNodes (first ∷ parts) = HaveNodes parts

-- the nodes of parts, one after another
abbrev pub nodes_in : List (List Node) → List Node
nodes_in parts = flat_map (λ part. part) parts

-- ---- the way to a directory

-- by a version, some first nodes of the directory of a tree, at a path, spell these entries, and this node is the next one
pub record IsNextNode (version : ℕ) (B : Blobs) (tree : Name) (path : List (List ℕ)) (entries : List Entry) (node : Node) : Type 0 where
  pub nodes : List Node
  pub has : HasFirstNodes version B tree (nodes ++ node ∷ [])
  pub spelled : NodesSpell B (Spells version B) path nodes entries

-- By a version, names lead down from the directory of the tree `from`, at a path, to that of another tree. These entries come before what is in it: of each
-- directory on the way all that its nodes spell before the one of the next name, and then that one's own entry.
abbrev pub LeadsDown : ℕ → Blobs → Name → List (List ℕ) → List (List ℕ) → Name → List Entry → Type 0
LeadsDown version B from path [] tree entries = (tree ≡ from) × (entries ≡ [])
LeadsDown version B from path (name ∷ names) tree entries = (subtree : Name) × (before : List Entry) × (inside : List Entry) × IsNextNode version B from path before (record { name = name; what = NodeKind.Dir subtree })
    × LeadsDown version B subtree (path ++ name ∷ []) names tree inside × (entries ≡ before ++ dir_entry (path ++ name ∷ []) ∷ inside)

-- ---- the blob that comes next

-- The tree comes next that is a directory's own, at a path that isn't too long. What was given out is just what comes before what is in the directory, its own
-- entry last; and no file is open.
pub record IsOwnTree (version : ℕ) (B : Blobs) (root : Name) (emitted : List Emission) (tree : Name) : Type 0 where
  pub path : List (List ℕ)
  pub leads : LeadsDown version B root [] path tree (rebuilt emitted)
  pub shallow : length path ≤ greatest_depth
  pub whole : AreWhole emitted

-- The tree comes next in which a directory goes on behind some parts: each of them but the first has a node, and names ascend over all. What was given out is
-- just what comes before what is in the directory, and what all nodes of these parts spell; and no file is open.
pub record IsFurtherTree (version : ℕ) (B : Blobs) (root : Name) (emitted : List Emission) (tree : Name) : Type 0 where
  pub path : List (List ℕ)
  pub first : Name
  pub before : List Entry
  pub parts : List (List Node)
  pub inside : List Entry
  pub leads : LeadsDown version B root [] path first before
  pub shallow : length path ≤ greatest_depth
  pub some : parts ≢ []
  pub behind : ComesBehind version B first parts tree
  pub later : LaterHaveNodes parts
  pub ordered : AreInOrder (nodes_in parts)
  pub spelled : NodesSpell B (Spells version B) path (nodes_in parts) inside
  pub given : rebuilt emitted ≡ before ++ inside
  pub whole : AreWhole emitted

-- these are pieces, one for each blob of these names, with its bytes
abbrev pub ArePiecesOf : Blobs → List Name → List Emission → Type 0
ArePiecesOf B [] emitted = emitted ≡ []
ArePiecesOf B (name ∷ names) emitted = (bytes : List ℕ) × (more : List Emission) × B BlobKind.Content bytes × (naming.name bytes ≡ name) × (emitted ≡ Emission.Piece bytes ∷ more) × ArePiecesOf B names more

-- The content blob comes next of a file, whose path isn't too long. What was given out is just what comes before the file, whole; the file's beginning; and a
-- piece for each of its blobs that stand before this one.
pub record IsNextContent (version : ℕ) (B : Blobs) (root : Name) (emitted : List Emission) (name : Name) : Type 0 where
  pub path : List (List ℕ)
  pub directory : Name
  pub before : List Entry
  pub inside : List Entry
  pub file : List ℕ
  pub size : ℕ
  pub sent : List Name
  pub later : List Name
  pub leads : LeadsDown version B root [] path directory before
  pub shallow : length path < greatest_depth
  pub next : IsNextNode version B directory path inside (record { name = file; what = NodeKind.File size (sent ++ name ∷ later) })
  pub first : List Emission
  pub last : List Emission
  pub split : emitted ≡ first ++ Emission.File (path ++ file ∷ []) ∷ last
  pub whole : AreWhole first
  pub given : rebuilt first ≡ before ++ inside
  pub pieces : ArePiecesOf B sent last

-- The file of this name, this size and these blobs comes next, of the directory of this tree, whose path isn't too long. What was given out is just what comes
-- before the file, and no file is open.
pub record IsNextFile (version : ℕ) (B : Blobs) (root : Name) (emitted : List Emission) (directory : Name) (file : List ℕ) (size : ℕ) (content : List Name) : Type 0 where
  pub path : List (List ℕ)
  pub before : List Entry
  pub inside : List Entry
  pub leads : LeadsDown version B root [] path directory before
  pub shallow : length path < greatest_depth
  pub next : IsNextNode version B directory path inside (record { name = file; what = NodeKind.File size content })
  pub given : rebuilt emitted ≡ before ++ inside
  pub whole : AreWhole emitted

-- by a version, in B, behind what was given out of the tree of the root, the blob of this kind and name comes next
abbrev pub IsNextBlob : ℕ → Blobs → Name → List Emission → BlobKind → Name → Type 0
IsNextBlob version B root emitted BlobKind.Tree name = IsOwnTree version B root emitted name ⊎ IsFurtherTree version B root emitted name
IsNextBlob version B root emitted BlobKind.Content name = IsNextContent version B root emitted name

-- ---- the tree that comes next, where it is broken

-- no directory at the path has the tree, whichever of its parts it is: its bytes are no tree's text, or it has nodes where none may be
abbrev pub IsUnfitAt : ℕ → Blobs → List (List ℕ) → Name → Type 0
IsUnfitAt version B path tree = IsNoTree version B tree ⊎ ((nodes : List Node) × ListsBy version B tree nodes × (nodes ≢ []) × (greatest_depth ≤ length path))

-- no directory goes on in the tree behind these nodes: it has none, or names don't ascend over all
abbrev pub IsWrongBehind : ℕ → Blobs → List Node → Name → Type 0
IsWrongBehind version B before tree = (nodes : List Node) × ListsBy version B tree nodes × ((nodes ≡ []) ⊎ ¬ AreInOrder (before ++ nodes))

-- The tree is broken just where it comes next behind what was given out: as the own one of the directory at this path it is unfit there; or as the one in which
-- that directory goes on behind some parts it is unfit, or wrong behind their nodes.
abbrev pub IsBrokenInPlace : ℕ → Blobs → Name → List Emission → List (List ℕ) → Name → Type 0
IsBrokenInPlace version B root emitted path tree = ((own : IsOwnTree version B root emitted tree) × (own.path ≡ path) × IsUnfitAt version B path tree)
    ⊎ ((further : IsFurtherTree version B root emitted tree) × (further.path ≡ path) × (IsUnfitAt version B path tree ⊎ IsWrongBehind version B (nodes_in further.parts) tree))
