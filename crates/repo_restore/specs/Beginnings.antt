-- What a tree spells first, where the rest of it needn't be there.
use Rattle.std.specs.Prelude.{◌≡◌, ◌≢◌, ◌⊎◌, ◌≤◌, ◌-◌, ◌++◌, ◌∷◌, [], ℕ, zero, suc, Bool, true, false, List, length, take, flat_map, Option, Some}
use Rattle.repo_name.specs.declared.names.Name.{Name}
use Rattle.repo_tree.specs.declared.entries.Entry.{Entry}
use Rattle.repo_tree.specs.declared.nodes.Node.{Node}
use Rattle.repo_tree.specs.declared.nodes.NodeKind.{NodeKind}
use Rattle.repo_tree.specs.Parts.{Blobs, IsTree, IsPart}
use Rattle.repo_tree.specs.Spelling.{Joined, NodesSpell, Spells, greatest_depth, dir_entry, file_entry}
use Rattle.repo_tree.specs.TreeText.{AreInOrder}
use Rattle.repo_session.specs.declared.emissions.Emission.{Emission}
use Rattle.repo_session.specs.Rebuilding.{rebuilt, Follow}

-- parts follow one another, the first under the name t, as those of a directory do of which there may be more: the first of these nodes, the later ones of
-- those, and each of the later ones has a node
abbrev pub FirstChain : Blobs → Name → List Node → List (List Node) → Type 0
FirstChain B t first [] = (next : Option Name) × IsPart B t first next
FirstChain B t first (second ∷ more) = (next : Name) × IsPart B t first (Some next) × (second ≢ []) × FirstChain B next second more

-- by a version, the directory of the tree t has these nodes first: its tree lists them before all others, or its first parts do, one after another
abbrev pub HasFirstNodes : ℕ → Blobs → Name → List Node → Type 0
HasFirstNodes (suc (suc zero)) B t nodes = (first : List Node) × (more : List (List Node)) × (others : List Node) × FirstChain B t first more
    × (first ++ flat_map (λ part. part) more ≡ nodes ++ others) × AreInOrder (nodes ++ others)
HasFirstNodes _ B t nodes = (others : List Node) × IsTree B t (nodes ++ others)

-- what a node at this path spells first, within an open file or not, where Sub says what a subtree does: a directory's own entry, and what its tree spells
-- first; or a file that is open, with the bytes of its first blobs, one after another, no more than its size
abbrev pub NodeSpellsFirst : Blobs → (Name → List (List ℕ) → Bool → List Entry → Type 0) → List (List ℕ) → NodeKind → Bool → List Entry → Type 0
NodeSpellsFirst B Sub path (NodeKind.Dir subtree) within entries = (inside : List Entry) × Sub subtree path within inside × (entries ≡ dir_entry path ∷ inside)
NodeSpellsFirst B Sub path (NodeKind.File size content) within entries = (within ≡ true) × (sent : ℕ) × (bytes : List ℕ) × Joined B (take sent content) bytes × (length bytes ≤ size) × (entries ≡ file_entry path bytes ∷ [])

-- some first nodes of a directory are spelled whole, and then comes what the next one spells first
pub record NextSpellsFirst (version : ℕ) (B : Blobs) (Sub : Name → List (List ℕ) → Bool → List Entry → Type 0) (t : Name) (path : List (List ℕ)) (within : Bool) (entries : List Entry) : Type 0 where
  pub nodes : List Node
  pub next : Node
  pub before : List Entry
  pub own : List Entry
  pub has : HasFirstNodes version B t (nodes ++ next ∷ [])
  pub spelled : NodesSpell B (Spells version B) path nodes before
  pub begun : NodeSpellsFirst B Sub (path ++ next.name ∷ []) next.what within own
  pub whole : entries ≡ before ++ own

-- By a version, in B the tree t spells these entries first below a path, to this depth, and within says whether the last one is a file that is still open.
-- There are none; or they are what some first nodes of its directory spell; or that, and what the next node spells first.
abbrev pub SpellsFirstTo : ℕ → ℕ → Blobs → Name → List (List ℕ) → Bool → List Entry → Type 0
SpellsFirstTo version zero B t path within entries = (within ≡ false) × (entries ≡ [])
SpellsFirstTo version (suc depth) B t path within entries = ((within ≡ false) × (entries ≡ []))
    ⊎ ((within ≡ false) × ((nodes : List Node) × HasFirstNodes version B t nodes × NodesSpell B (Spells version B) path nodes entries))
    ⊎ NextSpellsFirst version B (SpellsFirstTo version depth B) t path within entries

-- by a version, in B the tree t spells these entries first below a path
abbrev pub SpellsFirst : ℕ → Blobs → Name → List (List ℕ) → Bool → List Entry → Type 0
SpellsFirst version B t path within entries = SpellsFirstTo version (greatest_depth - length path) B t path within entries

-- what was given out is a beginning of what the tree spells: it stands in order, with a file open at its end or none, and its entries are what the tree spells
-- first
abbrev pub IsBeginning : ℕ → Blobs → Name → List Emission → Type 0
IsBeginning version B t emitted = (within : Bool) × Follow false emitted within × SpellsFirst version B t [] within (rebuilt emitted)
