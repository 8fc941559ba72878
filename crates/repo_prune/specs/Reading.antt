-- What is known while a prune reads trees.
use Rattle.std.specs.Prelude.{◌≡◌, ◌≢◌, ◌≤◌, ◌⊎◌, ◌++◌, ◌∷◌, [], ⊤, ℕ, true, List, length, slice_get, Some, Contains}
use Rattle.repo_name.specs.Naming as naming
use Rattle.repo_name.specs.declared.kinds.BlobKind.{BlobKind}
use Rattle.repo_name.specs.declared.kinds.BlobKind.TheVariants.{Tree}
use Rattle.repo_name.specs.declared.kinds.Thing.{Thing}
use Rattle.repo_name.specs.declared.names.Name.{Name}
use Rattle.repo_wire.specs.declared.messages.Say.{Say}
use Rattle.repo_index.specs.declared.facts.Fact.{Fact}
use Rattle.repo_tree.specs.Parts.{Blobs}
use Rattle.repo_tree.specs.Spelling.{greatest_depth, Reach}
use Rattle.repo_session.specs.Blobs.{range_of, IsBadBlob}
use Rattle.repo_session.specs.Catalogs.{IsBlobNowhere}
use Rattle.repo_session.specs.Ends.{blob_thing, IsUnwelcome}
use Rattle.repo_session.specs.Trees.{Under, IsBroken}
use Rattle.repo_session.specs.declared.outcomes.End.{End}
use Rattle.repo_reach.specs.Collected.{tree_blobs, version_by}
use Rattle.repo_reach.specs.Joints.{SaysNext}
use Rattle.repo_reach.specs.Laws.{IsWholeWalk}
use Rattle.repo_reach.specs.Walks.{IsWalk, WasAt, TurnIs, Adds, IsSameWalk}
use Rattle.repo_reach.specs.declared.joints.Next.{Next}
use Rattle.repo_reach.specs.declared.links.Links.{Links}
use Rattle.repo_reach.specs.declared.looks.Seen.{Seen}
use Rattle.repo_reach.specs.declared.roots.Root.{Root}
use Rattle.repo_reach.specs.declared.trees.Trees.{Trees}
use Rattle.repo_reach.specs.declared.trees.Turn.{Turn}
use Rattle.repo_reach.specs.declared.trees.Turn.TheVariants as turn
use Rattle.repo_writing.specs.Blobs.{HasFact}
use Rattle.repo_prune.specs.declared.reading.Walked.{Walked}
use Rattle.repo_tree.specs.declared.nodes.Node.{Node}

-- each tree that was seen was read, and a fact gives it
abbrev pub AreFound : List Fact → List Seen → Type 0
AreFound facts all = (i : ℕ) (seen : Seen) → slice_get all i ≡ Some seen → ((links : Links) × (seen.links ≡ Some links)) × HasFact facts Tree seen.name

-- each tree that was looked at as a part of a directory has the text of a part
abbrev pub AreParts : List Seen → Type 0
AreParts all = (i : ℕ) (seen : Seen) (depth : ℕ) → slice_get all i ≡ Some seen → WasAt seen true depth → seen.joint.next ≢ Next.Malformed

-- a walk over trees that were read from these texts
pub record Walks (facts : List Fact) (texts : List (List ℕ)) (trees : Trees) : Type 0 where
  pub walk : IsWalk texts trees
  pub found : AreFound facts trees.seen.items
  pub parts : AreParts trees.seen.items

-- and the tree of this fact is to be asked for
pub record Awaits (facts : List Fact) (texts : List (List ℕ)) (trees : Trees) (fact : Fact) : Type 0 where
  pub walks : Walks facts texts trees
  pub next : TurnIs facts texts trees (turn.Ask fact)

-- why it can't go on: no fact gives a blob that a root reaches, or a tree that a path of a root leads to is broken, each by the version of the root's snapshot
abbrev pub CannotGoOn : List Fact → Blobs → List Root → End → Type 0
CannotGoOn facts B roots (End.Missing thing name) = (kind : BlobKind) × (thing ≡ blob_thing kind) × IsBlobNowhere facts kind name × ((root : Root) × Contains roots root × Reach (version_by root.follows) B root.tree kind name)
CannotGoOn facts B roots (End.BadObject thing tree) = (thing ≡ Thing.Tree)
    × ((root : Root) × Contains roots root × ((path : List (List ℕ)) × (length path ≤ greatest_depth) × Under (version_by root.follows) B root.tree path tree × IsBroken (version_by root.follows) B root.tree path tree))
CannotGoOn facts B roots _ = ⊥

-- where a blob is missing, the walk is one still
abbrev pub IsWalkAt : List Fact → List (List ℕ) → Trees → End → Type 0
IsWalkAt facts texts trees (End.Missing thing name) = Walks facts texts trees
IsWalkAt facts texts trees _ = ⊤

-- what comes next of it
abbrev pub WalksOn : List Fact → List (List ℕ) → Trees → Walked → Type 0
WalksOn facts texts trees (Walked.Ask fact) = Awaits facts texts trees fact
WalksOn facts texts trees Walked.Done = Walks facts texts trees × IsWholeWalk trees
WalksOn facts texts trees (Walked.Ended end) = CannotGoOn facts (tree_blobs texts) trees.roots.items end × IsWalkAt facts texts trees end
WalksOn facts texts trees Walked.Away = ⊥

-- what is known of a walk that takes this turn: where a tree is broken, no more than that
abbrev pub WalksTo : List Fact → List (List ℕ) → Trees → Turn → Type 0
WalksTo facts texts trees (turn.Broken n) = ⊤
WalksTo facts texts trees (turn.Ask fact) = Walks facts texts trees
WalksTo facts texts trees (turn.Missing n) = Walks facts texts trees
WalksTo facts texts trees turn.Done = Walks facts texts trees

-- wherever a walk takes this turn, it goes on so
abbrev pub WalksBy : Turn → Walked → Type 0
WalksBy next walked = (facts : List Fact) (texts : List (List ℕ)) (trees : Trees) → WalksTo facts texts trees next → TurnIs facts texts trees next → WalksOn facts texts trees walked

-- the tree that is awaited was read, and has these nodes, and this is its member `next`; or has these bytes
abbrev pub AddsTree : List Fact → Name → List Node → Next → Trees → Walked → Trees → Type 0
AddsTree facts name nodes next old walked new = (texts : List (List ℕ)) (fact : Fact) (text : List ℕ) → Awaits facts texts old fact → fact.name ≡ name → naming.name text ≡ name
    → SaysNext text nodes next → WalksOn facts (texts ++ text ∷ []) new walked

abbrev pub AddsText : List Fact → Name → List ℕ → Trees → Walked → Trees → Type 0
AddsText facts name bytes old walked new = (texts : List (List ℕ)) (fact : Fact) → Awaits facts texts old fact → fact.name ≡ name → naming.name bytes ≡ name
    → WalksOn facts (texts ++ bytes ∷ []) new walked

-- it is awaited as before
abbrev pub AwaitsTreeStill : List Fact → Name → Trees → Trees → Type 0
AwaitsTreeStill facts name old new = (texts : List (List ℕ)) (fact : Fact) → fact.name ≡ name → Awaits facts texts old fact → Awaits facts texts new fact

-- the reply is the blob that a fact promises
pub record IsPromised (fact : Fact) (say : Say) (x : List ℕ) : Type 0 where
  pub bytes : say ≡ Say.Bytes x
  pub named : naming.name x ≡ fact.name
  pub long : length x ≡ fact.place.length

-- what comes next where the promised blob came
abbrev pub GoesOnWith : List Fact → List (List ℕ) → Fact → Say → Trees → Walked → Type 0
GoesOnWith facts texts fact say trees walked = (x : List ℕ) × IsPromised fact say x × WalksOn facts (texts ++ x ∷ []) trees walked

-- what comes of the reply to the request for a tree
abbrev pub TakesTree : List Fact → List (List ℕ) → Fact → Say → Trees → Walked → Type 0
TakesTree facts texts fact say trees (Walked.Ended end) = ((x : List ℕ) × (say ≡ Say.Bytes x) × IsBadBlob fact x × (end ≡ End.BadObject Thing.Tree fact.name)) ⊎ GoesOnWith facts texts fact say trees (Walked.Ended end)
TakesTree facts texts fact say trees Walked.Away = IsUnwelcome (range_of fact) say
TakesTree facts texts fact say trees walked = GoesOnWith facts texts fact say trees walked

-- a tree of this name was seen behind those that were, and the walk went on over all of them
pub record HasTaken (before : Trees) (name : Name) (after : Trees) : Type 0 where
  pub added : Trees
  pub seen : Seen
  pub named : seen.name ≡ name
  pub adds : Adds before seen added
  pub same : IsSameWalk added after

-- what was said of the tree that is awaited
abbrev pub TakesAwaited : List Fact → Fact → Say → Trees → Walked → Trees → Type 0
TakesAwaited facts fact say old walked new = (texts : List (List ℕ)) → Awaits facts texts old fact → TakesTree facts texts fact say new walked

-- what was taken is taken back: the tree is awaited as before
abbrev pub UntakesTree : Trees → Trees → Type 0
UntakesTree old new = (facts : List Fact) (texts : List (List ℕ)) (before : Trees) (fact : Fact) → HasTaken before fact.name old → Awaits facts texts before fact
    → Awaits facts texts new fact
