-- The trees that a walk visits, and what each visit gives.
use Rattle.std.specs.Prelude.{◌≡◌, ◌≤◌, ◌<◌, ◌⊎◌, ◌++◌, ◌∷◌, [], ℕ, zero, suc, Bool, true, false, List, Some, Contains}
use Rattle.repo_name.specs.declared.names.Name.{Name}
use Rattle.repo_reach.specs.Walks.{trees_below}
use Rattle.repo_reach.specs.declared.joints.Next.{Next}
use Rattle.repo_reach.specs.declared.roots.Root.{Root}
use Rattle.repo_tree.specs.Spelling.{greatest_depth}
use Rattle.repo_check.specs.Keeping.{KeptTrees, StandsWrong, content_within, links_of, next_kept, next_of}
use Rattle.repo_check.specs.declared.keeping.Kept.{Kept}
use Rattle.repo_check.specs.declared.visiting.Gift.{Gift}
use Rattle.repo_check.specs.declared.visiting.Visit.{Visit}

-- a tree at a path of so many components, as a part of a directory that goes on along `next`, or as a directory by itself
abbrev pub visit_at : Bool → ℕ → Name → Visit
visit_at follows depth n = record { tree = n; follows = follows; depth = depth }

-- that of a snapshot's root
abbrev pub visit_of : Root → Visit
visit_of root = visit_at root.follows 0 root.tree

-- ---- visits that come

-- the visits that came behind the others are such
abbrev pub AddsAmong : (Visit → Type 0) → List Visit → List Visit → Type 0
AddsAmong Among old new = (more : List Visit) × (new ≡ old ++ more) × ((v : Visit) → Contains more v → Among v)

-- a visit is among them now
abbrev pub AddsVisit : List Visit → Visit → List Visit → Type 0
AddsVisit old v new = AddsAmong (λ w. v ≡ w) old new × Contains new v

-- ---- what a visit gives

-- it is one of these trees, visited so at this depth
abbrev pub IsOneOf : Bool → ℕ → List Name → Visit → Type 0
IsOneOf follows depth trees w = (n : Name) × Contains trees n × (w ≡ visit_at follows depth n)

-- a visit leads to one of a tree below, where there may be one
abbrev pub IsBelow : KeptTrees → Visit → Visit → Type 0
IsBelow trees v w = (v.depth < greatest_depth) × IsOneOf v.follows (suc v.depth) (trees_below (links_of (trees v.tree) v.follows)) w

-- or to one of the tree in which its own goes on
abbrev pub IsBehind : KeptTrees → Visit → Visit → Type 0
IsBehind trees v w = (n : Name) × (next_of (trees v.tree) v.follows ≡ Some n) × (w ≡ visit_at v.follows v.depth n)

abbrev pub LeadsOn : KeptTrees → Visit → Visit → Type 0
LeadsOn trees v w = IsBelow trees v w ⊎ IsBehind trees v w

-- all to which it leads are among these
abbrev pub HasLedOn : KeptTrees → List Visit → Visit → Type 0
HasLedOn trees visits v = (w : Visit) → LeadsOn trees v w → Contains visits w

-- a tree has nodes where none may be
abbrev pub IsTooDeep : Kept → Visit → Type 0
IsTooDeep kept v = (greatest_depth ≤ v.depth) × (kept.links.is_bare ≡ false)

-- it is read as a part, and is no part's text
abbrev pub IsMisread : Kept → Visit → Type 0
IsMisread kept v = (v.follows ≡ true) × (kept.joint.next ≡ Next.Malformed)

-- the tree of a visit breaks its directory by itself
abbrev pub BreaksHere : KeptTrees → Visit → Type 0
BreaksHere trees v = (kept : Kept) × (trees v.tree ≡ Some kept) × (IsTooDeep kept v ⊎ IsMisread kept v)

-- it goes on wrong in this one
abbrev pub GoesOnWrong : KeptTrees → Visit → Name → Type 0
GoesOnWrong trees v n = (kept : Kept) × (behind : Kept) × (trees v.tree ≡ Some kept) × (next_kept kept v.follows ≡ Some n) × (trees n ≡ Some behind) × StandsWrong kept behind

-- the tree of this name breaks its directory: that of the visit, or the one in which that goes on
abbrev pub Breaks : KeptTrees → Visit → Name → Type 0
Breaks trees v n = (BreaksHere trees v × (v.tree ≡ n)) ⊎ GoesOnWrong trees v n

-- its tree has this content, where there may be any
abbrev pub HasContent : KeptTrees → Visit → Name → Type 0
HasContent trees v n = (v.depth < greatest_depth) × Contains (content_within (links_of (trees v.tree) v.follows)) n

-- what is gathered of a visit: its tree, its content, or the tree that breaks
abbrev pub Gives : Gift → KeptTrees → Visit → Name → Type 0
Gives Gift.Tree trees v n = v.tree ≡ n
Gives Gift.Content trees v n = HasContent trees v n
Gives Gift.Broken trees v n = Breaks trees v n

-- one of some visits gives it
abbrev pub IsGiven : Gift → KeptTrees → List Visit → Name → Type 0
IsGiven gift trees visits n = (v : Visit) × Contains visits v × Gives gift trees v n

-- ---- to what roots lead

-- from the tree t on, trees lead through these, one after another, to the last of them; without any it is t
abbrev pub GoesThrough : KeptTrees → Name → List Name → Name → Type 0
GoesThrough trees t [] last = last ≡ t
GoesThrough trees t (n ∷ more) last = (next_of (trees t) true ≡ Some n) × GoesThrough trees n more last

-- a tree belongs to the directory of another one
abbrev pub IsPartIn : KeptTrees → Bool → Name → Name → Type 0
IsPartIn trees true top t = (through : List Name) × GoesThrough trees top through t
IsPartIn trees false top t = t ≡ top

-- so many directories lead to a tree from a root
abbrev pub IsLedTo : KeptTrees → List Root → Bool → ℕ → Name → Type 0
IsLedTo trees roots follows zero t = (top : Name) × Contains roots (record { tree = top; follows = follows }) × IsPartIn trees follows top t
IsLedTo trees roots follows (suc depth) t = (above : Name) × (subtree : Name) × IsLedTo trees roots follows depth above × Contains (trees_below (links_of (trees above) follows)) subtree × IsPartIn trees follows subtree t

-- the visits with which a walk begins: just those of its roots
pub record BeginsAt (roots : List Root) (visits : List Visit) : Type 0 where
  pub all : (root : Root) → Contains roots root → Contains visits (visit_of root)
  pub only : (v : Visit) → Contains visits v → (root : Root) × Contains roots root × (v ≡ visit_of root)
