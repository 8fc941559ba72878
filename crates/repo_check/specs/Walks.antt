-- What is known while the trees are read that snapshots reach.
use Rattle.std.specs.Prelude.{◌≡◌, ◌≤◌, ◌<◌, ◌⊎◌, ◌++◌, ℕ, true, false, List, length, slice_get, Option, Some, None, Contains, Bool}
use Rattle.repo_name.specs.NameMaps.{found, Inserted}
use Rattle.repo_name.specs.declared.kinds.BlobKind.TheVariants.{Content, Tree}
use Rattle.repo_name.specs.declared.names.Name.{Name}
use Rattle.repo_wire.specs.declared.messages.Ask.{Ask}
use Rattle.repo_wire.specs.declared.messages.Say.{Say}
use Rattle.repo_pack.specs.declared.places.Place.{Place}
use Rattle.repo_index.specs.IndexText.{fact_of}
use Rattle.repo_index.specs.Lookups.{IsLeast}
use Rattle.repo_index.specs.declared.facts.Fact.{Fact}
use Rattle.repo_reach.specs.declared.roots.Root.{Root}
use Rattle.repo_session.specs.Blobs.{range_of}
use Rattle.repo_tree.specs.Spelling.{greatest_depth}
use Rattle.repo_session.specs.Catalogs.{IsBlobNowhere}
use Rattle.repo_session.specs.Traces.{Exchanged, Trace}
use Rattle.repo_session.specs.declared.outcomes.FaultKind.{FaultKind}
use Rattle.repo_check.specs.Answers.{Answer, IsTreeAnswer}
use Rattle.repo_check.specs.Arrivals.{TellsNothing}
use Rattle.repo_check.specs.Checking.{IsRanged}
use Rattle.repo_check.specs.Keeping.{KeptTrees}
use Rattle.repo_check.specs.Measures.{IsFaultyTree, IsReadAs}
use Rattle.repo_check.specs.Visiting.{HasLedOn, IsLedTo, visit_of}
use Rattle.repo_check.specs.declared.keeping.Kept.{Kept}
use Rattle.repo_check.specs.declared.knowing.Known.{Known}
use Rattle.repo_check.specs.declared.knowing.TreeNote.{TreeNote}
use Rattle.repo_check.specs.declared.visiting.Visit.{Visit}
use Rattle.repo_check.specs.declared.walks.Walk.{Walk}
use Rattle.repo_check.specs.declared.walks.WalkMark.{WalkMark}

-- what is at fault of each tree that is by itself
abbrev pub FaultsOfTrees : Type 0
FaultsOfTrees = Name → Option FaultKind

-- what is known of trees: where blobs lie, what is kept of those that read, and what is at fault of those that are by themselves
pub record Knowledge : Type 0 where
  pub facts : List Fact
  pub kept : KeptTrees
  pub faults : FaultsOfTrees

-- the code's own
abbrev pub known_of : Known → Knowledge
known_of known = record { facts = known.lookup; kept = found known.kept; faults = found known.faults }

-- a walk: what is known, the visits that there are, and how many of them were made
pub record WalkView : Type 0 where
  pub known : Knowledge
  pub visits : List Visit
  pub place : ℕ

-- the code's own
abbrev pub walk_of : Walk → WalkView
walk_of walk = record { known = known_of walk.known; visits = walk.visits; place = walk.place }

-- ---- what is known of trees

-- nothing is to be asked of a tree: it reads, or is at fault, or no fact gives it
abbrev pub IsSettled : Knowledge → Name → Type 0
IsSettled known n = ((kept : Kept) × (known.kept n ≡ Some kept)) ⊎ (((what : FaultKind) × (known.faults n ≡ Some what)) ⊎ IsBlobNowhere known.facts Tree n)

-- a tree is to be asked for by this fact, which gives its least place
pub record IsTreeDue (known : Knowledge) (n : Name) (fact : Fact) : Type 0 where
  pub is : fact ≡ fact_of Tree n fact.place
  pub least : IsLeast known.facts Tree n fact.place
  pub unread : known.kept n ≡ None
  pub faultless : known.faults n ≡ None

-- nothing is known but where blobs lie
abbrev pub IsFreshKnown : List Fact → Knowledge → Type 0
IsFreshKnown facts known = (known.facts ≡ facts) × ((n : Name) → known.kept n ≡ None) × ((n : Name) → known.faults n ≡ None)

-- this stands under the name now, if it is something
abbrev pub AddsUnder : {X : Type 0} → (Name → Option X) → Name → Option X → (Name → Option X) → Type 0
AddsUnder old n (Some x) new = Inserted old n x new
AddsUnder old n None new = new ≡ old

-- what was noted of a tree is known now
pub record AddsNote (old : Knowledge) (n : Name) (note : TreeNote) (new : Knowledge) : Type 0 where
  pub facts : new.facts ≡ old.facts
  pub kept : AddsUnder old.kept n note.kept new.kept
  pub faults : AddsUnder old.faults n note.fault new.faults

-- where a note of a tree came to some knowledge that had none, this is that knowledge again
abbrev pub TakesNoteBack : Name → Knowledge → Knowledge → Type 0
TakesNoteBack n now new = (old : Knowledge) (note : TreeNote) → old.kept n ≡ None → old.faults n ≡ None → AddsNote old n note now → new ≡ old

-- what is told of the answer that came for a tree from its place
abbrev pub IsTold : List Fact → Place → Answer → Option Kept → Option FaultKind → Type 0
IsTold facts place a (Some kept) None = IsReadAs facts place a kept true
IsTold facts place a (Some kept) (Some what) = (what ≡ FaultKind.Unreadable) × IsReadAs facts place a kept false
IsTold facts place a None (Some what) = IsFaultyTree place a what
IsTold facts place a None None = ⊥

-- what came for a tree, and what is told of it
pub record IsKnownTree (known : Knowledge) (es : Trace) (a : Answer) : Type 0 where
  pub place : Place
  pub least : IsLeast known.facts Tree a.name place
  pub ranged : IsRanged es place a.bytes
  pub told : IsTold known.facts place a (known.kept a.name) (known.faults a.name)

-- these are the answers that came for trees, one of each tree; nothing else was said of any place, and nothing is known but by them
pub record AreKnownTrees (known : Knowledge) (answers : List Answer) (es : Trace) : Type 0 where
  pub each : (a : Answer) → Contains answers a → IsKnownTree known es a
  pub once : (a b : Answer) → Contains answers a → Contains answers b → a.name ≡ b.name → a ≡ b
  pub only : (place : Place) (say : Say) → Exchanged es (Ask.Range place.pack place.offset place.length) say → (a : Answer) × Contains answers a × IsLeast known.facts Tree a.name place × IsTreeAnswer a.name say a
  pub kept : (n : Name) (kept : Kept) → known.kept n ≡ Some kept → (a : Answer) × Contains answers a × (a.name ≡ n)
  pub faults : (n : Name) (what : FaultKind) → known.faults n ≡ Some what → (a : Answer) × Contains answers a × (a.name ≡ n)

-- ---- visits

-- a visit was made: nothing is to be asked of its tree, and all to which it leads are among the visits
abbrev pub IsMade : Knowledge → List Visit → Visit → Type 0
IsMade known visits v = IsSettled known v.tree × HasLedOn known.kept visits v

-- roots lead to a visit, at a path that may be
abbrev pub IsVisit : KeptTrees → List Root → Visit → Type 0
IsVisit trees roots v = IsLedTo trees roots v.follows v.depth v.tree × (v.depth ≤ greatest_depth)

-- where a walk stands: its visits are those of the roots and such as roots lead to, and those before its place were made
pub record Walks (roots : List Root) (walk : WalkView) : Type 0 where
  pub begun : (root : Root) → Contains roots root → Contains walk.visits (visit_of root)
  pub led : (v : Visit) → Contains walk.visits v → IsVisit walk.known.kept roots v
  pub made : (i : ℕ) (v : Visit) → i < walk.place → slice_get walk.visits i ≡ Some v → IsMade walk.known walk.visits v

-- the tree of this fact, at its place, is to be asked for
pub record Awaits (roots : List Root) (walk : WalkView) (fact : Fact) : Type 0 where
  pub walks : Walks roots walk
  pub visit : Visit
  pub here : slice_get walk.visits walk.place ≡ Some visit
  pub of_tree : visit.tree ≡ fact.name
  pub due : IsTreeDue walk.known fact.name fact

-- all visits were made
pub record IsOver (roots : List Root) (walk : WalkView) : Type 0 where
  pub begun : (root : Root) → Contains roots root → Contains walk.visits (visit_of root)
  pub led : (v : Visit) → Contains walk.visits v → IsVisit walk.known.kept roots v
  pub made : (v : Visit) → Contains walk.visits v → IsMade walk.known walk.visits v

-- what comes next of a walk
abbrev pub WalksOn : List Root → WalkView → Option Fact → Type 0
WalksOn roots walk (Some fact) = Awaits roots walk fact
WalksOn roots walk None = IsOver roots walk

-- only visits came, and the place changed
pub record HasGoneOn (old new : WalkView) : Type 0 where
  pub known : new.known ≡ old.known
  pub more : List Visit
  pub visits : new.visits ≡ old.visits ++ more

-- ---- what came

-- these are the answers that came for trees, and what is known of trees; each of them is visited
pub record WalkReads (walk : WalkView) (answers : List Answer) (es : Trace) : Type 0 where
  pub seen : AreKnownTrees walk.known answers es
  pub reached : (a : Answer) → Contains answers a → (v : Visit) × Contains walk.visits v × (v.tree ≡ a.name)

-- what is told of a reply to the request for the tree of a fact; or it tells nothing
abbrev pub NotesTree : List Fact → Fact → Say → Option TreeNote → Type 0
NotesTree facts fact say (Some note) = (a : Answer) × IsTreeAnswer fact.name say a × IsTold facts fact.place a note.kept note.fault
NotesTree facts fact say None = TellsNothing (range_of fact) say

-- a note says something: that the tree reads, or what is at fault of it
abbrev pub IsSomething : TreeNote → Type 0
IsSomething note = ((kept : Kept) × (note.kept ≡ Some kept)) ⊎ ((what : FaultKind) × (note.fault ≡ Some what))

-- what was noted of a tree is known now, and visits came behind those that were there
pub record TreeIsNoted (old : WalkView) (n : Name) (note : TreeNote) (new : WalkView) : Type 0 where
  pub adds : AddsNote old.known n note new.known
  pub more : List Visit
  pub visits : new.visits ≡ old.visits ++ more

-- how far a walk has come
abbrev pub IsWalkMark : WalkView → WalkMark → Type 0
IsWalkMark walk mark = (mark.visits ≡ length walk.visits) × (mark.place ≡ walk.place)

-- and the walk went on from there
pub record TakesNote (old : WalkView) (n : Name) (note : TreeNote) (next : Option Fact) (new : WalkView) : Type 0 where
  pub noted : TreeIsNoted old n note new
  pub goes : (roots : List Root) → Walks roots (record { known = new.known; visits = old.visits; place = old.place }) → WalksOn roots new next

-- what is at fault of a tree that is reached, by what is known of it and whether it breaks its directory: what it is by itself; that it breaks it; or that no
-- index gives it
abbrev pub tree_fault : Option FaultKind → Option Kept → Bool → Option FaultKind
tree_fault (Some what) kept broken = Some what
tree_fault None (Some kept) true = Some FaultKind.Unreadable
tree_fault None (Some kept) false = None
tree_fault None None broken = Some FaultKind.Unindexed

-- what is at fault of a content blob, by these facts: nothing, as one gives it; or that none does
abbrev pub ContentFault : List Fact → Name → Option FaultKind → Type 0
ContentFault facts n None = (place : Place) × IsLeast facts Content n place
ContentFault facts n (Some what) = (what ≡ FaultKind.Unindexed) × IsBlobNowhere facts Content n

-- where a tree was noted of which a walk knew nothing, this is that walk again, by its mark
abbrev pub WalkTakesBack : WalkMark → Name → WalkView → WalkView → Type 0
WalkTakesBack mark n now new = (old : WalkView) (note : TreeNote) → IsWalkMark old mark → old.known.kept n ≡ None → old.known.faults n ≡ None → TreeIsNoted old n note now → new ≡ old
