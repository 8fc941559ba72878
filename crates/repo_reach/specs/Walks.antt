-- Where a walk over trees stands.
use Rattle.std.specs.Prelude.{◌≡◌, ◌≢◌, ◌<◌, ◌≤◌, ◌+◌, ◌⊎◌, ◌++◌, ◌∷◌, map, reverse, [], ℕ, Bool, true, false, List, length, slice_get, Option, Some, None, Contains}
use Rattle.std.specs.List.{sum_by}
use Rattle.repo_name.specs.NameMaps.{found, Inserted, Dropped}
use Rattle.repo_name.specs.Naming as naming
use Rattle.repo_name.specs.declared.kinds.BlobKind.TheVariants.{Tree}
use Rattle.repo_name.specs.declared.names.Name.{Name}
use Rattle.repo_pack.specs.declared.places.Place.{Place}
use Rattle.repo_index.specs.IndexText.{fact_of}
use Rattle.repo_index.specs.Lookups.{IsLeast}
use Rattle.repo_index.specs.declared.facts.Fact.{Fact}
use Rattle.repo_tree.specs.declared.nodes.Node.{Node}
use Rattle.repo_tree.specs.Spelling.{greatest_depth}
use Rattle.repo_reach.specs.Breaking.{IsBroken}
use Rattle.repo_reach.specs.Collected.{LeadsTo}
use Rattle.repo_reach.specs.Joints.{SaysNext, HasEnds, IsJoint, MayFollow, tree_next}
use Rattle.repo_reach.specs.Links.{LeadTo}
use Rattle.repo_reach.specs.declared.joints.Joint.{Joint}
use Rattle.repo_reach.specs.declared.joints.Next.{Next}
use Rattle.repo_reach.specs.declared.links.Links.{Links}
use Rattle.repo_reach.specs.declared.roots.Root.{Root}
use Rattle.repo_reach.specs.declared.looks.Seen.{Seen}
use Rattle.repo_reach.specs.declared.trees.Trees.{Trees}
use Rattle.repo_reach.specs.declared.trees.Turn.{Turn}
use Rattle.repo_reach.specs.declared.trees.Turn.TheVariants as turn
use Rattle.repo_reach.specs.declared.trees.Visit.{Visit}

-- the flags of the depths at which a tree was looked at: as a part of a directory that goes on along `next`, or else as a directory by itself
abbrev pub flags_of : Seen → Bool → List Bool
flags_of seen true = seen.followed.items
flags_of seen false = seen.depths.items

-- a tree that was seen was looked at so at this depth
abbrev pub WasAt : Seen → Bool → ℕ → Type 0
WasAt seen follows depth = slice_get (flags_of seen follows) depth ≡ Some true

-- the tree of this name was
abbrev pub IsLooked : List Seen → Name → Bool → ℕ → Type 0
IsLooked all t follows depth = (i : ℕ) × (seen : Seen) × (slice_get all i ≡ Some seen) × (seen.name ≡ t) × WasAt seen follows depth

-- a tree that is to be looked at so
abbrev pub visit_at : Bool → ℕ → Name → Visit
visit_at follows depth n = record { tree = n; depth = depth; follows = follows }

-- it was, or is to be looked at
abbrev pub IsMet : List Seen → List Visit → Name → Bool → ℕ → Type 0
IsMet all waiting t follows depth = IsLooked all t follows depth ⊎ Contains waiting (visit_at follows depth t)

-- what the nodes of a tree lead to, as it is read: where it is no part's text, none are read of a part
abbrev pub links_in_part : Next → Option Links → Option Links
links_in_part Next.Malformed links = None
links_in_part Next.Absent links = links
links_in_part (Next.Tree n) links = links

abbrev pub links_by : Bool → Seen → Option Links
links_by true seen = links_in_part seen.joint.next seen.links
links_by false seen = seen.links

-- the trees below one that was read; none below another
abbrev pub trees_below : Option Links → List Name
trees_below None = []
trees_below (Some links) = links.trees.items

-- the tree in which it goes on, as it is read: a directory by itself goes on in none
abbrev pub next_by : Bool → Seen → Option Name
next_by true seen = tree_next seen.joint.next
next_by false seen = None

-- a tree that was read has one of the texts; of another it isn't known that it goes on
abbrev pub HasText : List (List ℕ) → Name → Joint → Option Links → Type 0
HasText texts t joint None = joint.next ≡ Next.Absent
HasText texts t joint (Some links) = (text : List ℕ) × (nodes : List Node) × Contains texts text × (naming.name text ≡ t) × SaysNext text nodes joint.next × HasEnds nodes joint.ends × LeadTo nodes links

-- a tree that was seen has a flag for each depth, and was read from one of the texts, or couldn't be read
pub record IsSeen (texts : List (List ℕ)) (seen : Seen) : Type 0 where
  pub flags : (follows : Bool) → length (flags_of seen follows) ≡ greatest_depth + 1
  pub text : HasText texts seen.name seen.joint seen.links

-- the trees that were seen were read from these texts, each text is that of one of them, and no two texts have one name
pub record AreSeen (texts : List (List ℕ)) (all : List Seen) : Type 0 where
  pub each : (i : ℕ) (seen : Seen) → slice_get all i ≡ Some seen → IsSeen texts seen
  pub known : (x : List ℕ) → Contains texts x → (i : ℕ) × (seen : Seen) × (slice_get all i ≡ Some seen) × (seen.name ≡ naming.name x)
  pub one : (x y : List ℕ) → Contains texts x → Contains texts y → naming.name x ≡ naming.name y → x ≡ y

-- a tree of this name was seen
abbrev pub HasSeen : List Seen → Name → Type 0
HasSeen all n = (i : ℕ) × (seen : Seen) × (slice_get all i ≡ Some seen) × (seen.name ≡ n)

-- where a name stands among them, and nowhere else
abbrev pub StandsAt : List Seen → Name → Option ℕ → Type 0
StandsAt all n None = (i : ℕ) (seen : Seen) → slice_get all i ≡ Some seen → seen.name ≢ n
StandsAt all n (Some at) = ((seen : Seen) × (slice_get all at ≡ Some seen) × (seen.name ≡ n)) × ((i : ℕ) (seen : Seen) → slice_get all i ≡ Some seen → seen.name ≡ n → i ≡ at)

-- So many of the roots were looked at. Of each tree that was looked at: the trees below it were met, if it is above the greatest depth; that in which it goes on
-- was seen, and was met at the same depth; and the roots lead to it. They lead to all that is to be looked at too.
pub record HaveMet (texts : List (List ℕ)) (roots : List Root) (root : ℕ) (all : List Seen) (waiting : List Visit) : Type 0 where
  pub begun : (i : ℕ) (r : Root) → i < root → slice_get roots i ≡ Some r → IsLooked all r.tree r.follows 0
  pub below : (i : ℕ) (seen : Seen) (links : Links) (follows : Bool) (depth : ℕ) (n : Name) → slice_get all i ≡ Some seen → links_by follows seen ≡ Some links → WasAt seen follows depth → depth < greatest_depth → Contains links.trees.items n
      → IsMet all waiting n follows (depth + 1)
  pub onward : (i : ℕ) (seen : Seen) (follows : Bool) (depth : ℕ) (n : Name) → slice_get all i ≡ Some seen → next_by follows seen ≡ Some n → WasAt seen follows depth → HasSeen all n × IsMet all waiting n follows depth
  pub looked : (i : ℕ) (seen : Seen) (follows : Bool) (depth : ℕ) → slice_get all i ≡ Some seen → WasAt seen follows depth → LeadsTo texts roots follows depth seen.name
  pub to_look : (visit : Visit) → Contains waiting visit → LeadsTo texts roots visit.follows visit.depth visit.tree × (visit.depth ≤ greatest_depth)

-- the code's own
pub record IsWalk (texts : List (List ℕ)) (c : Trees) : Type 0 where
  pub seen : AreSeen texts c.seen.items
  pub places : (n : Name) → StandsAt c.seen.items n (found c.places n)
  pub met : HaveMet texts c.roots.items c.root c.seen.items c.waiting.items

-- a tree that is to be looked at and wasn't: the roots lead to it
pub record IsVisitDue (texts : List (List ℕ)) (c : Trees) (visit : Visit) : Type 0 where
  pub leads : LeadsTo texts c.roots.items visit.follows visit.depth visit.tree
  pub within : visit.depth ≤ greatest_depth
  pub fresh : ¬ IsLooked c.seen.items visit.tree visit.follows visit.depth

-- where it stands, if it was seen, its flag isn't set
abbrev pub IsLeftToVisit : Trees → Visit → Type 0
IsLeftToVisit c visit = (at : ℕ) → found c.places visit.tree ≡ Some at → (seen : Seen) × (slice_get c.seen.items at ≡ Some seen) × (slice_get (flags_of seen visit.follows) visit.depth ≡ Some false)

-- what is to be looked at next: nothing where nothing waits and all roots were looked at
abbrev pub IsNextVisit : List (List ℕ) → Trees → Option Visit → Type 0
IsNextVisit texts c (Some visit) = IsVisitDue texts c visit
IsNextVisit texts c None = (c.waiting.items ≡ []) × (length c.roots.items ≤ c.root)

-- what was seen stays, and so do the roots
pub record IsSameSeen (old new : Trees) : Type 0 where
  pub seen : new.seen ≡ old.seen
  pub places : new.places ≡ old.places
  pub roots : new.roots ≡ old.roots

-- ---- how much is left

-- how many flags aren't set
abbrev pub unset : List Bool → ℕ
unset [] = 0
unset (true ∷ flags) = unset flags
unset (false ∷ flags) = unset flags + 1

-- at how many depths the trees that were seen weren't looked at, as the one or as the other
abbrev pub unlooked : List Seen → ℕ
unlooked all = sum_by (λ (seen : Seen). unset seen.depths.items + unset seen.followed.items) all

-- ---- a step

-- the same tree, with as many flags
pub record IsSameTree (old new : Seen) : Type 0 where
  pub name : new.name ≡ old.name
  pub links : new.links ≡ old.links
  pub joint : new.joint ≡ old.joint
  pub flags : (follows : Bool) → length (flags_of new follows) ≡ length (flags_of old follows)

-- the trees stay; and one of them was looked at once more
pub record Flags (old : List Seen) (at : ℕ) (follows : Bool) (depth : ℕ) (new : List Seen) : Type 0 where
  pub back : (i : ℕ) (seen : Seen) → slice_get new i ≡ Some seen → (before : Seen) × (slice_get old i ≡ Some before) × IsSameTree before seen
      × ((f : Bool) (d : ℕ) → WasAt seen f d → WasAt before f d ⊎ ((i ≡ at) × (f ≡ follows) × (d ≡ depth)))
  pub on : (i : ℕ) (seen : Seen) → slice_get old i ≡ Some seen → (after : Seen) × (slice_get new i ≡ Some after) × IsSameTree seen after × ((f : Bool) (d : ℕ) → WasAt seen f d → WasAt after f d)
  pub now : (seen : Seen) → slice_get old at ≡ Some seen → depth < length (flags_of seen follows) → (after : Seen) × (slice_get new at ≡ Some after) × WasAt after follows depth
  pub fewer : (seen : Seen) → slice_get old at ≡ Some seen → slice_get (flags_of seen follows) depth ≡ Some false → unlooked new < unlooked old

-- the trees below one that is looked at at a depth: none at the greatest
abbrev pub AreBelow : Seen → Bool → ℕ → List Name → Type 0
AreBelow seen follows depth trees = (depth < greatest_depth → trees ≡ trees_below (links_by follows seen)) × (greatest_depth ≤ depth → trees ≡ [])

-- a name or none, in a list
abbrev pub named : Option Name → List Name
named None = []
named (Some n) = n ∷ []

-- what is to be looked at once a tree was, the first one last: the trees below it, and that in which it goes on at its own depth
pub record AreDue (seen : Seen) (follows : Bool) (depth : ℕ) (due : List Visit) : Type 0 where
  pub trees : List Name
  pub are_below : AreBelow seen follows depth trees
  pub turned : due ≡ reverse (map (visit_at follows (depth + 1)) trees ++ map (visit_at follows depth) (named (next_by follows seen)))

-- that is to be looked at before what was
abbrev pub Spreads : Seen → Bool → ℕ → List Visit → List Visit → Type 0
Spreads seen follows depth old new = (due : List Visit) × AreDue seen follows depth due × (new ≡ old ++ due)

-- the trees stay, whatever they were looked at
pub record AreSameTrees (old new : List Seen) : Type 0 where
  pub back : (i : ℕ) (seen : Seen) → slice_get new i ≡ Some seen → (before : Seen) × (slice_get old i ≡ Some before) × IsSameTree before seen
  pub on : (i : ℕ) (seen : Seen) → slice_get old i ≡ Some seen → (after : Seen) × (slice_get new i ≡ Some after) × IsSameTree seen after

-- what was seen stays, but for the depths at which it was looked at
pub record IsSameWalk (old new : Trees) : Type 0 where
  pub trees : AreSameTrees old.seen.items new.seen.items
  pub places : new.places ≡ old.places
  pub roots : new.roots ≡ old.roots

-- ---- what comes next

-- no fact gives a tree of this name
abbrev pub IsTreeNowhere : List Fact → Name → Type 0
IsTreeNowhere facts n = (place : Place) → ¬ Contains facts (fact_of Tree n place)

-- the roots lead to this tree at a depth that a path may have
abbrev pub IsLedTo : List (List ℕ) → List Root → Name → Type 0
IsLedTo texts roots n = (follows : Bool) × (depth : ℕ) × (depth ≤ greatest_depth) × LeadsTo texts roots follows depth n

-- what comes next of a walk, where blobs are to be found by these facts
abbrev pub TurnIs : List Fact → List (List ℕ) → Trees → Turn → Type 0
TurnIs facts texts c (turn.Ask fact) = (fact.kind ≡ Tree) × IsLeast facts Tree fact.name fact.place × StandsAt c.seen.items fact.name None × IsLedTo texts c.roots.items fact.name
TurnIs facts texts c (turn.Missing n) = IsTreeNowhere facts n × StandsAt c.seen.items n None × IsLedTo texts c.roots.items n
TurnIs facts texts c (turn.Broken n) = IsBroken texts c.roots.items n
TurnIs facts texts c turn.Done = (c.waiting.items ≡ []) × (length c.roots.items ≤ c.root)

-- ---- what breaks where a tree is looked at

-- it has nodes where none may be
abbrev pub IsTooDeep : Seen → Bool → ℕ → Type 0
IsTooDeep seen follows depth = (greatest_depth ≤ depth) × (links : Links) × (links_by follows seen ≡ Some links) × (links.is_bare ≡ false)

-- it does, or it is a part without the text of one
abbrev pub BreaksHere : Seen → Bool → ℕ → Type 0
BreaksHere seen follows depth = IsTooDeep seen follows depth ⊎ ((follows ≡ true) × (seen.joint.next ≡ Next.Malformed))

-- it goes on in a part that was read, and that may not come after it
pub record GoesWrong (all : List Seen) (seen : Seen) (n : Name) : Type 0 where
  pub onward : next_by true seen ≡ Some n
  pub place : ℕ
  pub behind : Seen
  pub there : slice_get all place ≡ Some behind
  pub called : behind.name ≡ n
  pub links : Links
  pub read : links_by true behind ≡ Some links
  pub wrong : ¬ MayFollow seen.joint.ends behind.joint.ends

-- the tree of this name breaks its directory: the one that is looked at; or if that one doesn't, the one in which it goes on
abbrev pub Breaks : List Seen → Seen → Bool → ℕ → Name → Type 0
Breaks all seen follows depth n = (BreaksHere seen follows depth × (seen.name ≡ n)) ⊎ ((¬ BreaksHere seen follows depth) × (follows ≡ true) × GoesWrong all seen n)

-- each tree that breaks where one is looked at now, did so before or is told
abbrev pub BrokenOnes : (Name → Type 0) → List Seen → List Seen → Type 0
BrokenOnes Told old new = (i : ℕ) (was seen : Seen) (follows : Bool) (depth : ℕ) (n : Name) → slice_get old i ≡ Some was → slice_get new i ≡ Some seen → WasAt seen follows depth → Breaks new seen follows depth n
    → WasAt was follows depth ⊎ Told n

-- what comes next tells the one that is new
abbrev pub TellsBroken : List Seen → List Seen → Turn → Type 0
TellsBroken old new (turn.Ask fact) = BrokenOnes (λ n. ⊥) old new
TellsBroken old new (turn.Missing n) = BrokenOnes (λ n. ⊥) old new
TellsBroken old new (turn.Broken broken) = BrokenOnes (λ n. n ≡ broken) old new
TellsBroken old new turn.Done = BrokenOnes (λ n. ⊥) old new

-- ---- one tree more, and one less

-- a tree of this name that was looked at at no depth
pub record IsNewTree (n : Name) (seen : Seen) : Type 0 where
  pub name : seen.name ≡ n
  pub flags : (follows : Bool) → length (flags_of seen follows) ≡ greatest_depth + 1
  pub never : (follows : Bool) (depth : ℕ) → ¬ WasAt seen follows depth

-- what its nodes lead to is known, and what joins it to other parts
abbrev pub HasRead : List Node → Next → Seen → Type 0
HasRead nodes next seen = (links : Links) × (seen.links ≡ Some links) × LeadTo nodes links × IsJoint nodes next seen.joint

-- nothing is known of its nodes, nor that it goes on
abbrev pub IsUnread : Seen → Type 0
IsUnread seen = (seen.links ≡ None) × (seen.joint.next ≡ Next.Absent)

-- no tree was looked at
abbrev pub NoneLooked : List Seen → Type 0
NoneLooked all = (i : ℕ) (seen : Seen) (follows : Bool) (depth : ℕ) → slice_get all i ≡ Some seen → ¬ WasAt seen follows depth

-- the same roots are looked at as far, and the same waits
pub record IsSameStand (old new : Trees) : Type 0 where
  pub roots : new.roots ≡ old.roots
  pub root : new.root ≡ old.root
  pub waiting : new.waiting ≡ old.waiting

-- a tree was seen after those that were, and all else stays
pub record Adds (old : Trees) (tree : Seen) (new : Trees) : Type 0 where
  pub seen : new.seen.items ≡ old.seen.items ++ tree ∷ []
  pub places : Inserted (found old.places) tree.name (length old.seen.items) (found new.places)
  pub stand : IsSameStand old new

-- nothing changed
pub record IsUnchanged (old new : Trees) : Type 0 where
  pub seen : new.seen.items ≡ old.seen.items
  pub places : found new.places ≡ found old.places
  pub stand : IsSameStand old new

-- the walk begins anew over what was seen
pub record Rewinds (old new : Trees) : Type 0 where
  pub trees : AreSameTrees old.seen.items new.seen.items
  pub never : NoneLooked new.seen.items
  pub waiting : new.waiting.items ≡ []
  pub root : new.root ≡ 0
  pub places : new.places ≡ old.places
  pub roots : new.roots ≡ old.roots

-- the last tree that was seen is gone
pub record Drops (old new : Trees) : Type 0 where
  pub last : (all : List Seen) (seen : Seen) → old.seen.items ≡ all ++ seen ∷ [] → (new.seen.items ≡ all) × Dropped (found old.places) seen.name (found new.places)
  pub roots : new.roots ≡ old.roots

-- a walk stays one
abbrev pub KeepsWalk : Trees → Trees → Type 0
KeepsWalk old new = (texts : List (List ℕ)) → IsWalk texts old → IsWalk texts new

-- a tree that wasn't seen joins a walk, by its text
abbrev pub JoinsWalk : Name → List Node → Next → Trees → Trees → Type 0
JoinsWalk name nodes next old new = (texts : List (List ℕ)) (text : List ℕ) → IsWalk texts old → StandsAt old.seen.items name None → naming.name text ≡ name
    → SaysNext text nodes next → IsWalk (texts ++ text ∷ []) new

-- where a tree was added to a walk that is one without it, and only looked on since, this is a walk without it again
abbrev pub ComesBack : Trees → Trees → Type 0
ComesBack old new = (texts : List (List ℕ)) (before added : Trees) (seen : Seen) → IsWalk texts before → StandsAt before.seen.items seen.name None
    → Adds before seen added → IsSameWalk added old → IsWalk texts new

-- then these are the trees from before
abbrev pub HasTreesBack : Trees → Trees → Type 0
HasTreesBack old new = (before added : Trees) (seen : Seen) → Adds before seen added → IsSameWalk added old → AreSameTrees before.seen.items new.seen.items
