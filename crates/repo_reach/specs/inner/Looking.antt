-- What the calls of a walk do.
use Rattle.std.specs.Prelude.{◌≡◌, ◌≤◌, ◌⊎◌, ◌↔◌, ◌<◌, ◌+◌, length, map, Option, None, Some, List, Bool, IsTrue, true, slice_get, false, ℕ}
use Rattle.repo_name.specs.NameMaps.{found}
use Rattle.repo_name.specs.declared.names.Name.{Name}
use Rattle.repo_index.specs.declared.facts.Fact.{Fact}
use Rattle.repo_tree.specs.Spelling.{greatest_depth}
use Rattle.repo_reach.specs.Collected.{LeadsTo}
use Rattle.repo_reach.specs.Joints.{MayFollow}
use Rattle.repo_reach.specs.Walks.{flags_of, next_by, links_by, IsLedTo, TurnIs, unlooked, StandsAt, HasSeen, IsLooked, IsWalk, Spreads, AreBelow, AreDue, visit_at, BreaksHere, GoesWrong, Breaks}
use Rattle.repo_reach.specs.declared.trees.Trees.{Trees}
use Rattle.repo_reach.specs.declared.trees.Turn.{Turn}
use Rattle.repo_reach.specs.declared.looks.Seen.{Seen}
use Rattle.repo_reach.specs.declared.trees.Visit.{Visit}

-- what is said of a tree that wasn't seen, and to which a walk is led
abbrev pub TurnsTo : List Fact → Name → Turn → Type 0
TurnsTo facts tree turn = (texts : List (List ℕ)) (c : Trees) → StandsAt c.seen.items tree None → IsLedTo texts c.roots.items tree → TurnIs facts texts c turn

-- the answer to whether a tree was looked at at a depth
abbrev pub SaysLooked : Trees → Visit → Bool → Type 0
SaysLooked c visit answer = (texts : List (List ℕ)) → IsWalk texts c → visit.depth ≤ greatest_depth → IsTrue answer ↔ IsLooked c.seen.items visit.tree visit.follows visit.depth

-- the root that is next, at no depth
pub record IsRootVisit (c : Trees) (visit : Visit) : Type 0 where
  pub depth : visit.depth ≡ 0
  pub next : slice_get c.roots.items c.root ≡ Some (record { tree = visit.tree; follows = visit.follows })
  pub within : c.root < length c.roots.items

-- the trees below the one that stands there, to be looked at at the next depth
abbrev pub AreDeeperFrom : List Seen → ℕ → Visit → List Visit → Type 0
AreDeeperFrom all at visit deeper = (seen : Seen) → slice_get all at ≡ Some seen → (trees : List Name) × AreBelow seen visit.follows visit.depth trees × (deeper ≡ map (visit_at visit.follows (visit.depth + 1)) trees)

-- what is to be looked at once the tree that stands there was
abbrev pub AreDueFrom : List Seen → ℕ → Visit → List Visit → Type 0
AreDueFrom all at visit due = (seen : Seen) → slice_get all at ≡ Some seen → AreDue seen visit.follows visit.depth due

-- that is to be looked at before what was
abbrev pub SpreadsFrom : Trees → ℕ → Visit → Trees → Type 0
SpreadsFrom old at visit new = (seen : Seen) → slice_get old.seen.items at ≡ Some seen → Spreads seen visit.follows visit.depth old.waiting.items new.waiting.items

-- the tree in which one goes on was seen
abbrev pub HasSeenNext : List Seen → Seen → Bool → Type 0
HasSeenNext all seen follows = (n : Name) → next_by follows seen ≡ Some n → HasSeen all n

-- the tree in which the one that stands there goes on, if that wasn't seen
abbrev pub IsUnseenNext : Trees → ℕ → Bool → Option Name → Type 0
IsUnseenNext c at follows (Some n) = (found c.places n ≡ None) × ((seen : Seen) → slice_get c.seen.items at ≡ Some seen → next_by follows seen ≡ Some n)
IsUnseenNext c at follows None = (texts : List (List ℕ)) (seen : Seen) → IsWalk texts c → slice_get c.seen.items at ≡ Some seen → HasSeenNext c.seen.items seen follows

-- a walk that is led to the tree that stands there, and that has seen the one in which it goes on, stays one
abbrev pub LooksOn : Trees → ℕ → Visit → Trees → Type 0
LooksOn old at visit new = (texts : List (List ℕ)) (seen : Seen) → IsWalk texts old → slice_get old.seen.items at ≡ Some seen
    → LeadsTo texts old.roots.items visit.follows visit.depth seen.name → visit.depth ≤ greatest_depth → HasSeenNext old.seen.items seen visit.follows → IsWalk texts new

-- the tree that stands there wasn't looked at so at this depth, and now fewer are left
abbrev pub LeavesFewer : Trees → ℕ → Visit → Trees → Type 0
LeavesFewer old at visit new = (seen : Seen) → slice_get old.seen.items at ≡ Some seen → slice_get (flags_of seen visit.follows) visit.depth ≡ Some false
    → unlooked new.seen.items < unlooked old.seen.items

-- the name of the tree that stands there, if it breaks its directory by itself
abbrev pub BreaksAt : List Seen → ℕ → Bool → ℕ → Option Name → Type 0
BreaksAt all at follows depth (Some n) = (seen : Seen) → slice_get all at ≡ Some seen → BreaksHere seen follows depth × (seen.name ≡ n)
BreaksAt all at follows depth None = (seen : Seen) → slice_get all at ≡ Some seen → ¬ BreaksHere seen follows depth

-- the answer to whether the tree that stands behind may come after the one that stands there, as far as it is known
abbrev pub SaysInPlace : List Seen → ℕ → ℕ → Bool → Type 0
SaysInPlace all at behind answer = (seen after : Seen) → slice_get all at ≡ Some seen → slice_get all behind ≡ Some after
    → IsTrue answer ↔ ((links_by true after ≡ None) ⊎ MayFollow seen.joint.ends after.joint.ends)

-- the tree in which the one that stands there goes on wrong, if it does
abbrev pub FindsWrong : Trees → ℕ → Option Name → Type 0
FindsWrong c at (Some n) = (texts : List (List ℕ)) (seen : Seen) → IsWalk texts c → slice_get c.seen.items at ≡ Some seen → GoesWrong c.seen.items seen n
FindsWrong c at None = (texts : List (List ℕ)) (seen : Seen) (n : Name) → IsWalk texts c → slice_get c.seen.items at ≡ Some seen → ¬ GoesWrong c.seen.items seen n

-- the tree that breaks where the one that stands there is looked at, if there is one
abbrev pub FindsBroken : Trees → ℕ → Visit → Option Name → Type 0
FindsBroken c at visit (Some n) = (texts : List (List ℕ)) (seen : Seen) → IsWalk texts c → slice_get c.seen.items at ≡ Some seen → Breaks c.seen.items seen visit.follows visit.depth n
FindsBroken c at visit None = (texts : List (List ℕ)) (seen : Seen) (n : Name) → IsWalk texts c → slice_get c.seen.items at ≡ Some seen → ¬ Breaks c.seen.items seen visit.follows visit.depth n
