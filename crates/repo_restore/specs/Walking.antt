-- What a walk's calls give.
use Rattle.std.specs.Prelude.{◌≡◌, ◌≢◌, ◌⊎◌, ◌≤◌, ◌+◌, ◌++◌, ◌∷◌, [], ℕ, zero, suc, Bool, true, false, List, length, take, slice_get, Option, Some, None, Contains}
use Rattle.repo_name.specs.declared.kinds.BlobKind.{BlobKind}
use Rattle.repo_name.specs.declared.kinds.Thing.{Thing}
use Rattle.repo_name.specs.declared.names.Name.{Name}
use Rattle.repo_index.specs.declared.facts.Fact.{Fact}
use Rattle.repo_tree.specs.declared.entries.Entry.{Entry}
use Rattle.repo_tree.specs.declared.nodes.Node.{Node}
use Rattle.repo_tree.specs.declared.nodes.NodeKind.{NodeKind}
use Rattle.repo_tree.specs.Parts.{Blobs, IsPartText, ListsBy}
use Rattle.repo_tree.specs.TreeText.{Follows, IsTreeText}
use Rattle.repo_tree.specs.Spelling.{Spells, Reach, greatest_depth, dir_entry}
use Rattle.repo_session.specs.declared.emissions.Emission.{Emission}
use Rattle.repo_session.specs.declared.outcomes.End.{End}
use Rattle.repo_session.specs.Ends.{blob_thing}
use Rattle.repo_session.specs.Rebuilding.{rebuilt, Follow}
use Rattle.repo_session.specs.Traces.{Each, Trace}
use Rattle.repo_restore.specs.declared.nodes.Begun.{Begun}
use Rattle.repo_restore.specs.declared.nodes.Level.{Level}
use Rattle.repo_restore.specs.declared.walks.Turn.{Turn}
use Rattle.repo_restore.specs.declared.walks.Walk.{Walk}
use Rattle.repo_restore.specs.declared.steps.Stop.{Stop}
use Rattle.repo_index.specs.Lookups.{IsLeast}
use Rattle.repo_restore.specs.Nodes.{WaitsFor, DirBegins, FileBegins}
use Rattle.repo_session.specs.Trees.{Under}
use Rattle.repo_restore.specs.Beginnings.{SpellsFirst}
use Rattle.repo_restore.specs.Positions.{ComesBehind, ArePiecesOf, IsNextFile, IsNextBlob, IsBrokenInPlace}
use Rattle.repo_restore.specs.Restoring.{counted, Sums}
use Rattle.repo_session.specs.Catalogs.{IsBlobNowhere}
use Rattle.repo_restore.specs.Walks.{PartIs, LacksFirst, WalkGives, is_open, WalkGave, WalkStopped, IsOpenLevel, DirectoryIsBegun, IsFile, LeadsOn, IsWriting, AtOpen}
use Rattle.repo_session.specs.Received.{Received}
use Rattle.repo_name.specs.Naming as naming

-- what beginning a node gives
abbrev pub NodeBegins : List Fact → Name → List (List ℕ) → NodeKind → List Emission → List Emission → Begun → Type 0
NodeBegins facts tree path (NodeKind.File size content) old new begun = FileBegins facts tree path size content old new begun
NodeBegins facts tree path (NodeKind.Dir subtree) old new begun = DirBegins facts path subtree old new begun

-- a level whose first nodes were given out, after what was given out before
pub record LevelStands (facts : List Fact) (version : ℕ) (B : Blobs) (root first : Name) (level : Level) (begun : ℕ) (before : List Entry) (old out : List Emission) : Type 0 where
  pub inside : List Entry
  pub opened : IsOpenLevel version B root first level.tree level.path level.nodes.items level.next begun inside
  pub whole : rebuilt (old ++ out) ≡ before ++ inside
  pub given : WalkGave facts version B root false old out

-- a level at which a walk ends: behind what was given out before comes what its directory spells first
pub record LevelEnds (facts : List Fact) (version : ℕ) (B : Blobs) (root first : Name) (level : Level) (before : List Entry) (old out : List Emission) : Type 0 where
  pub inside : List Entry
  pub begins : SpellsFirst version B first level.path false inside
  pub whole : rebuilt (old ++ out) ≡ before ++ inside
  pub given : WalkGave facts version B root false old out

-- a blob that a node waits for, with what was given out up to it
abbrev pub WaitsAs : List Fact → NodeKind → List (List ℕ) → Fact → List Entry → List Emission → Type 0
WaitsAs facts (NodeKind.Dir subtree) path fact before emitted = WaitsFor facts BlobKind.Tree subtree fact × (rebuilt emitted ≡ before ++ dir_entry path ∷ [])
WaitsAs facts (NodeKind.File size content) path fact before emitted = (slice_get content 0 ≡ Some fact.name) × WaitsFor facts BlobKind.Content fact.name fact × Sums facts content size × ((writing : IsWriting emitted before path []) × (writing.last ≡ []))

-- a level, one node of which waits for a blob
pub record WaitsIn (facts : List Fact) (version : ℕ) (B : Blobs) (root first : Name) (level : Level) (begun : ℕ) (before : List Entry) (old out : List Emission) (fact : Fact) : Type 0 where
  pub at : ℕ
  pub counts : begun ≡ at + 1
  pub node : Node
  pub node_is : slice_get level.nodes.items at ≡ Some node
  pub inside : List Entry
  pub opened : IsOpenLevel version B root first level.tree level.path level.nodes.items level.next at inside
  pub waits : WaitsAs facts node.what (level.path ++ node.name ∷ []) fact (before ++ inside) (old ++ out)
  pub given : WalkGave facts version B root (is_open fact.kind) old out

-- a level all of whose nodes were given out, and that goes on in a part which waits
pub record WaitsBehind (facts : List Fact) (version : ℕ) (B : Blobs) (root first : Name) (level : Level) (before : List Entry) (old out : List Emission) (fact : Fact) : Type 0 where
  pub stands : LevelStands facts version B root first level (length level.nodes.items) before old out
  pub goes_on : level.next ≡ Some fact.name
  pub waits : WaitsFor facts BlobKind.Tree fact.name fact

-- the tree, a part of a directory, lists the file that comes next behind what was given out, and the file's blobs have another size
pub record IsUnevenIn (facts : List Fact) (version : ℕ) (B : Blobs) (root : Name) (emitted : List Emission) (tree : Name) : Type 0 where
  pub directory : Name
  pub parts : List (List Node)
  pub behind : ComesBehind version B directory parts tree
  pub nodes : List Node
  pub read : ListsBy version B tree nodes
  pub file : List ℕ
  pub size : ℕ
  pub content : List Name
  pub among : Contains nodes (record { name = file; what = NodeKind.File size content })
  pub next : IsNextFile version B root emitted directory file size content
  pub total : ℕ
  pub sums : Sums facts content total
  pub other : total ≢ size

-- a path that isn't too long leads to a tree that is broken where it comes next behind what was given out
abbrev pub IsBrokenTree : ℕ → Blobs → Name → List Emission → Name → Type 0
IsBrokenTree version B root emitted tree = (path : List (List ℕ)) × Under version B root path tree × (length path ≤ greatest_depth) × IsBrokenInPlace version B root emitted path tree

-- the blob that has no place is the first that is looked up behind what was given out: the tree that comes next, or a blob of the file that does
abbrev pub LacksBlob : BlobKind → List Fact → ℕ → Blobs → Name → List Emission → Name → Type 0
LacksBlob BlobKind.Tree facts version B root emitted name = IsNextBlob version B root emitted BlobKind.Tree name
LacksBlob BlobKind.Content facts version B root emitted name = (directory : Name) × (file : List ℕ) × (size : ℕ) × (content : List Name) × IsNextFile version B root emitted directory file size content × LacksFirst facts content name

-- why a walk ends behind what was given out
abbrev pub WalkEnds : List Fact → ℕ → Blobs → Name → List Emission → End → Type 0
WalkEnds facts version B root emitted (End.Missing thing name) = (kind : BlobKind) × (thing ≡ blob_thing kind) × IsBlobNowhere facts kind name × Reach version B root kind name × LacksBlob kind facts version B root emitted name
WalkEnds facts version B root emitted (End.BadObject thing tree) = (thing ≡ Thing.Tree) × ((path : List (List ℕ)) × Under version B root path tree × (length path ≤ greatest_depth)) × IsUnevenIn facts version B root emitted tree
WalkEnds facts version B root emitted _ = ⊥

-- what beginning a level's next nodes gives, wherever the open directories lead to it
abbrev pub NextBegins : List Fact → ℕ → Blobs → Name → Name → Level → List Entry → List Emission → List Emission → ℕ → Begun → Type 0
NextBegins facts version B root first level before old out now Begun.Done = LevelStands facts version B root first level (length level.nodes.items) before old out × (level.next ≡ None)
NextBegins facts version B root first level before old out now (Begun.Waits fact) = WaitsIn facts version B root first level now before old out fact
NextBegins facts version B root first level before old out now (Begun.GoesOn fact) = WaitsBehind facts version B root first level before old out fact
NextBegins facts version B root first level before old out now (Begun.Ended end) = ((levels : List Level) → LeadsOn version B root root [] [] levels first level.path before → WalkEnds facts version B root (old ++ out) end)
    × LevelEnds facts version B root first level before old out

-- where a walk stops
abbrev pub StopsAt : List Fact → ℕ → Blobs → Name → List Level → List Emission → List Emission → ℕ → ℕ → Begun → Type 0
StopsAt facts version B root levels old out depth begun Begun.Done = Spells version B root [] (rebuilt (old ++ out)) × WalkGave facts version B root false old out
StopsAt facts version B root levels old out depth begun (Begun.Waits fact) = (level : Level) × (first : Name) × (before : List Entry) × (slice_get levels depth ≡ Some level)
    × LeadsOn version B root root [] [] (take depth levels) first level.path before × WaitsIn facts version B root first level begun before old out fact
StopsAt facts version B root levels old out depth begun (Begun.GoesOn fact) = (level : Level) × (first : Name) × (before : List Entry) × (slice_get levels depth ≡ Some level)
    × LeadsOn version B root root [] [] (take depth levels) first level.path before × WaitsBehind facts version B root first level before old out fact
StopsAt facts version B root levels old out depth begun (Begun.Ended end) = WalkEnds facts version B root (old ++ out) end × WalkStopped facts version B root old out

-- a level of which so many nodes are begun
abbrev pub with_begun : Level → ℕ → Level
with_begun level begun = record { tree = level.tree; path = level.path; nodes = level.nodes; next = level.next; begun = begun }

-- a file of the innermost level waits for a blob, some first ones of it were given out, a piece each
pub record FileWaits (facts : List Fact) (version : ℕ) (B : Blobs) (root : Name) (levels : List Level) (sent : ℕ) (fact : Fact) (emitted : List Emission) : Type 0 where
  pub above : List Level
  pub level : Level
  pub before : List Entry
  pub inside : List Entry
  pub node : Node
  pub size : ℕ
  pub content : List Name
  pub bytes : List ℕ
  pub levels_are : levels ≡ above ++ level ∷ []
  pub first : Name
  pub leads : LeadsOn version B root root [] [] above first level.path before
  pub begun : DirectoryIsBegun version B root first level inside node
  pub file : node.what ≡ NodeKind.File size content
  pub asked : slice_get content sent ≡ Some fact.name
  pub part : IsFile facts B size content sent bytes
  pub writing : IsWriting emitted (before ++ inside) (level.path ++ node.name ∷ []) bytes
  pub pieces : ArePiecesOf B (take sent content) writing.last

-- the first tree of a directory waits, whose path isn't too long
abbrev pub TreeWaits : ℕ → Blobs → Name → List Level → Fact → List Emission → Type 0
TreeWaits version B root levels fact emitted = (path : List (List ℕ)) × LeadsOn version B root root [] [] levels fact.name path (rebuilt emitted) × Under version B root path fact.name × (length path ≤ greatest_depth)

-- the next part of the innermost directory waits: all nodes of this one were given out
pub record PartWaits (version : ℕ) (B : Blobs) (root : Name) (levels : List Level) (fact : Fact) (emitted : List Emission) : Type 0 where
  pub above : List Level
  pub level : Level
  pub first : Name
  pub before : List Entry
  pub inside : List Entry
  pub levels_are : levels ≡ above ++ level ∷ []
  pub leads : LeadsOn version B root root [] [] above first level.path before
  pub opened : IsOpenLevel version B root first level.tree level.path level.nodes.items level.next (length level.nodes.items) inside
  pub goes_on : level.next ≡ Some fact.name
  pub whole : rebuilt emitted ≡ before ++ inside

-- by whether it is that
abbrev pub TreeWaitsBy : Bool → ℕ → Blobs → Name → List Level → Fact → List Emission → Type 0
TreeWaitsBy true version B root levels fact emitted = PartWaits version B root levels fact emitted
TreeWaitsBy false version B root levels fact emitted = TreeWaits version B root levels fact emitted

-- by the kind of the blob that a walk waits for
abbrev pub WaitsByKind : BlobKind → List Fact → ℕ → Blobs → Name → List Level → ℕ → Bool → Fact → List Emission → Type 0
WaitsByKind BlobKind.Content facts version B root levels sent onward fact emitted = FileWaits facts version B root levels sent fact emitted
WaitsByKind BlobKind.Tree facts version B root levels sent onward fact emitted = TreeWaitsBy onward version B root levels fact emitted

-- a walk waits for a blob, after all that was given out, which stands in order
pub record WalkWaits (facts : List Fact) (version : ℕ) (B : Blobs) (root : Name) (levels : List Level) (sent : ℕ) (onward : Bool) (entries : ℕ) (fact : Fact) (emitted : List Emission) : Type 0 where
  pub least : IsLeast facts fact.kind fact.name fact.place
  pub count : entries ≡ counted (length (rebuilt emitted))
  pub waits : WaitsByKind fact.kind facts version B root levels sent onward fact emitted
  pub order : Follow false emitted (is_open fact.kind)

-- the tree that came, if one did, can't be taken: it is broken where it was next; nothing more is given out
abbrev pub RefusesTree : Option Name → ℕ → Blobs → Name → List Emission → List Emission → End → Type 0
RefusesTree None version B root old out end = ⊥
RefusesTree (Some tree) version B root old out end = (end ≡ End.BadObject Thing.Tree tree) × (out ≡ []) × IsBrokenTree version B root old tree

-- what comes of a step of a walk, on the blob that came, if one did
abbrev pub TurnGives : Option Name → List Fact → ℕ → Blobs → Name → List Level → ℕ → Bool → ℕ → List Emission → List Emission → Turn → Type 0
TurnGives came facts version B root levels sent onward entries old out (Turn.Ask fact) = WalkWaits facts version B root levels sent onward entries fact (old ++ out) × Each (WalkGives facts version B root) out
TurnGives came facts version B root levels sent onward entries old out (Turn.Complete count) = Spells version B root [] (rebuilt (old ++ out)) × (count ≡ counted (length (rebuilt (old ++ out)))) × WalkGave facts version B root false old out
TurnGives came facts version B root levels sent onward entries old out (Turn.Ended end) = (WalkEnds facts version B root (old ++ out) end ⊎ RefusesTree came version B root old out end) × WalkStopped facts version B root old out

-- ---- over the code's own type

-- a walk of the code waits for a blob
abbrev pub WaitsForBlob : List Fact → ℕ → Blobs → Name → Walk → Fact → List Emission → Type 0
WaitsForBlob facts version B root w fact emitted = WalkWaits facts version B root w.levels.items w.sent w.onward w.entries fact emitted

-- what comes of a step of it
abbrev pub Turns : Option Name → List Fact → ℕ → Blobs → Name → Walk → List Emission → List Emission → Turn → Type 0
Turns came facts version B root w old out turn = TurnGives came facts version B root w.levels.items w.sent w.onward w.entries old out turn

-- the node that is begun of a level
abbrev pub NodeHasBegun : Level → Node → Type 0
NodeHasBegun level node = (at : ℕ) × (level.begun ≡ at + 1) × (slice_get level.nodes.items at ≡ Some node)

-- where the tree that a walk waits for stands
abbrev pub IsNextPath : List Level → List (List ℕ) → Type 0
IsNextPath levels path = (levels ≡ [] → path ≡ [])
    × ((above : List Level) (level : Level) (node : Node) → levels ≡ above ++ level ∷ [] → NodeHasBegun level node → path ≡ level.path ++ node.name ∷ [])

-- the path of the innermost directory
abbrev pub IsLastPath : List Level → List (List ℕ) → Type 0
IsLastPath levels path = (above : List Level) (level : Level) → levels ≡ above ++ level ∷ [] → path ≡ level.path

-- nodes may come behind others: there are some, and the first one's name is above the last one's
abbrev pub MayFollow : List Node → List Node → Type 0
MayFollow before [] = ⊥
MayFollow before (first ∷ more) = Follows before first.name

-- wherever it stands in a directory, its next node begins
abbrev pub BeginsNext : List Fact → Level → ℕ → List Emission → List Emission → ℕ → Begun → Type 0
BeginsNext facts level begun out more now what = (gs : Trace) (version : ℕ) (root first : Name) (before : List Entry) (old : List Emission) → LevelStands facts version (Received gs) root first level begun before old out
    → NextBegins facts version (Received gs) root first level before old more now what

-- wherever the levels are open, it goes on to the next stop
abbrev pub GoesToStop : List Fact → List Level → ℕ → List Emission → List Emission → ℕ → ℕ → Begun → Type 0
GoesToStop facts levels begun out more depth now what = (gs : Trace) (version : ℕ) (root : Name) (old : List Emission)
    → AtOpen version (Received gs) root levels (length levels) begun (rebuilt (old ++ out)) → WalkGave facts version (Received gs) root false old out
    → StopsAt facts version (Received gs) root levels old more depth now what

-- the content of the file that the last level has begun
abbrev pub IsOpenContent : List Level → List Name → Type 0
IsOpenContent levels names = (above : List Level) (level : Level) (node : Node) (size : ℕ) (content : List Name) → levels ≡ above ++ level ∷ [] → NodeHasBegun level node
    → node.what ≡ NodeKind.File size content → names ≡ content

-- ---- what a walk does, whatever was received and given before

-- at a stop
abbrev pub TurnsAtStop : Stop → List Emission → Walk → Turn → Walk → Type 0
TurnsAtStop stop out walk turn new = (came : Option Name) (facts : List Fact) (gs : Trace) (version : ℕ) (root : Name) (old : List Emission)
    → StopsAt facts version (Received gs) root walk.levels.items old out stop.depth stop.begun stop.what → walk.entries ≡ counted (length (rebuilt old))
    → Turns came facts version (Received gs) root new old out turn

-- on the nodes of the tree that it waited for: the first one of a directory, or the next part of the innermost
abbrev pub EntersTree : Bool → List Fact → Name → List Node → Option Name → Walk → List Emission → List Emission → Turn → Walk → Type 0
EntersTree onward facts tree nodes next walk before out turn new = (gs : Trace) (version : ℕ) (root : Name) (fact : Fact) (old : List Emission) → WaitsForBlob facts version (Received gs) root walk fact old
    → walk.onward ≡ onward → fact.kind ≡ BlobKind.Tree → fact.name ≡ tree → PartIs version (Received gs) tree nodes next → before ≡ [] → Turns (Some tree) facts version (Received gs) root new old out turn

-- on the content that it waited for
abbrev pub TakesContent : List Fact → List ℕ → Walk → List Emission → List Emission → Turn → Walk → Type 0
TakesContent facts bytes walk before out turn new = (gs : Trace) (version : ℕ) (root : Name) (fact : Fact) (old : List Emission) → WaitsForBlob facts version (Received gs) root walk fact old
    → fact.kind ≡ BlobKind.Content → Received gs BlobKind.Content bytes → naming.name bytes ≡ fact.name → length bytes ≡ fact.place.length → before ≡ []
    → Turns (Some fact.name) facts version (Received gs) root new old out turn

-- on the blob that it waited for, by the version of the snapshot
abbrev pub TakesBlob : ℕ → List Fact → Fact → List ℕ → Walk → List Emission → List Emission → Turn → Walk → Type 0
TakesBlob version facts fact bytes walk before out turn new = (gs : Trace) (root : Name) (old : List Emission) → WaitsForBlob facts version (Received gs) root walk fact old
    → Received gs fact.kind bytes → naming.name bytes ≡ fact.name → length bytes ≡ fact.place.length → before ≡ [] → Turns (Some fact.name) facts version (Received gs) root new old out turn

-- the text is that of such a part, by the version
abbrev pub IsTextBy : ℕ → List ℕ → List Node → Option Name → Type 0
IsTextBy (suc (suc zero)) bytes nodes next = IsPartText bytes nodes next
IsTextBy _ bytes nodes next = IsTreeText bytes nodes × (next ≡ None)
