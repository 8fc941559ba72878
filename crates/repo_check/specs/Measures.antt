-- What a tree's text comes to, by the facts that are known.
use Rattle.std.specs.Prelude.{◌≡◌, ◌≢◌, ◌+◌, ◌⊎◌, ◌↔◌, ◌∷◌, [], ⊤, ℕ, Bool, IsTrue, IsFalse, List, length, Some, None, Contains}
use Rattle.repo_name.specs.declared.kinds.BlobKind.TheVariants.{Content}
use Rattle.repo_name.specs.Naming as naming
use Rattle.repo_name.specs.declared.names.Name.{Name}
use Rattle.repo_pack.specs.declared.places.Place.{Place}
use Rattle.repo_wire.specs.declared.messages.Code.{Code}
use Rattle.repo_wire.specs.declared.messages.Say.{Say}
use Rattle.repo_index.specs.IndexText.{fact_of}
use Rattle.repo_index.specs.Lookups.{IsLeast}
use Rattle.repo_index.specs.declared.facts.Fact.{Fact}
use Rattle.repo_reach.specs.Joints.{HasEnds, SaysNext}
use Rattle.repo_reach.specs.Links.{LeadTo}
use Rattle.repo_tree.specs.declared.nodes.Node.{Node}
use Rattle.repo_tree.specs.declared.nodes.NodeKind.{NodeKind}
use Rattle.repo_session.specs.Blobs.{range_of}
use Rattle.repo_session.specs.declared.outcomes.FaultKind.{FaultKind}
use Rattle.repo_check.specs.Answers.{Answer, Gathered, GivesFact, IsTreeAnswer}
use Rattle.repo_check.specs.Arrivals.{AnswersBytes, TellsNothing}
use Rattle.repo_tree.specs.TreeText.{IsTreeText}
use Rattle.repo_check.specs.Findings.{IsMeasured, IsMismeasured}
use Rattle.repo_check.specs.declared.keeping.Kept.{Kept}
use Rattle.repo_check.specs.declared.trees.TreeLook.{TreeLook}

-- no fact gives content of this name
abbrev pub IsLost : List Fact → Name → Type 0
IsLost facts n = (place : Place) → ¬ Contains facts (fact_of Content n place)

-- by the facts, these content blobs have so many bytes together
abbrev pub Measures : List Fact → List Name → ℕ → Type 0
Measures facts [] size = size ≡ 0
Measures facts (n ∷ names) size = (place : Place) × (rest : ℕ) × IsLeast facts Content n place × Measures facts names rest × (size ≡ place.length + rest)

-- one of the names is lost
abbrev pub HasLost : List Fact → List Name → Type 0
HasLost facts names = (n : Name) × Contains names n × IsLost facts n

-- a file's blobs have its size, or one of them is lost
abbrev pub SuitsSize : List Fact → NodeKind → Type 0
SuitsSize facts (NodeKind.File size content) = Measures facts content size ⊎ HasLost facts content
SuitsSize facts (NodeKind.Dir subtree) = ⊤

-- they have another size
abbrev pub IsUnsuited : List Fact → NodeKind → Type 0
IsUnsuited facts (NodeKind.File size content) = (sum : ℕ) × Measures facts content sum × (sum ≢ size)
IsUnsuited facts (NodeKind.Dir subtree) = ⊥

-- a tree of these bytes and nodes has the length of its place, and its files have their sizes
pub record HasLengths (facts : List Fact) (place : Place) (x : List ℕ) (nodes : List Node) : Type 0 where
  pub len : length x ≡ place.length
  pub sizes : (node : Node) → Contains nodes node → SuitsSize facts node.what

-- it has another, or one of its files has another size
abbrev pub LacksLengths : List Fact → Place → List ℕ → List Node → Type 0
LacksLengths facts place x nodes = (length x ≢ place.length) ⊎ ((node : Node) × Contains nodes node × IsUnsuited facts node.what)

-- the facts are those that were given
abbrev pub AreGivenFacts : Gathered → List Fact → Type 0
AreGivenFacts answers facts = (fact : Fact) → Contains facts fact ↔ GivesFact answers fact

-- whether the lengths of a tree are right: that of its bytes is the place's, and the files among its nodes have their sizes
pub record Judges (answers : Gathered) (place : Place) (x : List ℕ) (nodes : List Node) (right : Bool) : Type 0 where
  pub len : IsTrue right → length x ≡ place.length
  pub well : IsTrue right → (node : Node) → Contains nodes node → IsMeasured answers node.what
  pub ill : IsFalse right → (length x ≢ place.length) ⊎ ((node : Node) × Contains nodes node × IsMismeasured answers node.what)

-- it is a tree of which this is kept, with lengths that are right or aren't
pub record IsReadAs (facts : List Fact) (place : Place) (a : Answer) (kept : Kept) (right : Bool) : Type 0 where
  pub bytes : List ℕ
  pub nodes : List Node
  pub has : AnswersBytes a bytes
  pub tree : IsTreeText bytes nodes
  pub lead : LeadTo nodes kept.links
  pub says : SaysNext bytes nodes kept.joint.next
  pub ends : HasEnds nodes kept.joint.ends
  pub judged : (answers : Gathered) → AreGivenFacts answers facts → Judges answers place bytes nodes right

-- it is at fault by itself, whatever else came: one whose bytes are a tree's text isn't
abbrev pub IsFaultyTree : Place → Answer → FaultKind → Type 0
IsFaultyTree place a FaultKind.Missing = a.bytes ≡ None
IsFaultyTree place a FaultKind.Name = (x : List ℕ) × (a.bytes ≡ Some x) × (naming.name x ≢ a.name)
IsFaultyTree place a FaultKind.Unreadable = (x : List ℕ) × AnswersBytes a x × ((nodes : List Node) → ¬ IsTreeText x nodes)
IsFaultyTree place a FaultKind.Place = ⊥
IsFaultyTree place a FaultKind.Unindexed = ⊥

-- what a reply tells of a tree that was asked for at its place
abbrev pub LooksAtTree : List Fact → Fact → Say → TreeLook → Type 0
LooksAtTree facts fact say (TreeLook.Read kept right) = (a : Answer) × IsTreeAnswer fact.name say a × IsReadAs facts fact.place a kept right
LooksAtTree facts fact say (TreeLook.Fault what) = (a : Answer) × IsTreeAnswer fact.name say a × IsFaultyTree fact.place a what
LooksAtTree facts fact say TreeLook.Unwelcome = TellsNothing (range_of fact) say

-- of one that brings no bytes
abbrev pub LooksAtNone : Say → TreeLook → Type 0
LooksAtNone say (TreeLook.Read kept right) = ⊥
LooksAtNone say (TreeLook.Fault what) = (what ≡ FaultKind.Missing) × ((say ≡ Say.Refused Code.Missing) ⊎ (say ≡ Say.Refused Code.Range))
LooksAtNone say TreeLook.Unwelcome = (say ≢ Say.Refused Code.Missing) × (say ≢ Say.Refused Code.Range)
