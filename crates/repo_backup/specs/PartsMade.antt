-- The parts of a directory that is closed, which are made from the last one to the first.
use Rattle.std.specs.Prelude.{◌≡◌, ◌∷◌, [], ℕ, zero, suc, true, false, List, length, map, Option, Some, None}
use Rattle.std.specs.List.{flat_map}
use Rattle.repo_name.specs.Naming as naming
use Rattle.repo_name.specs.declared.names.Name.{Name}
use Rattle.repo_tree.specs.PartWriting.{ArePartTexts, first_text, parts_of}
use Rattle.repo_tree.specs.declared.nodes.Node.{Node}
use Rattle.repo_backup.specs.Folders.{Folder, nothing, dir_then}
use Rattle.repo_backup.specs.Standings.{Around, Standing, both}
use Rattle.repo_backup.specs.declared.parts.PartsLeft.{PartsLeft}

-- by the version of a config, the parts of a directory of these nodes: in version 2 as they are cut, else one of all
abbrev pub parts_by : ℕ → List Node → List (List Node)
parts_by (suc (suc zero)) nodes = parts_of nodes
parts_by _ nodes = nodes ∷ []

-- the nodes of some parts, one after another
abbrev pub nodes_in : List (List Node) → List Node
nodes_in parts = flat_map (λ part. part) parts

-- the name of the tree of the first of these parts, if there is one
abbrev pub next_of : List (List Node) → Option Name
next_of [] = None
next_of (part ∷ more) = Some (naming.name (first_text (part ∷ more)))

-- these parts are left to be made, and those behind them were made, and have texts
pub record IsLeft (p : PartsLeft) (left made : List (List Node)) : Type 0 where
  pub sizes : p.sizes.items ≡ map length left
  pub count : p.count ≡ length (nodes_in left)
  pub next : p.next ≡ next_of made
  pub texts : ArePartTexts made

-- how many parts are left to be made
abbrev pub left_count : Option PartsLeft → ℕ
left_count None = 0
left_count (Some p) = length p.sizes.items

-- where a directory is open that has this, in these around it
abbrev pub open_dir : Folder → List Around → Standing
open_dir done above = record { done = done; above = above; file = None; over = false }

-- and where it is closed: the root at the end of all
abbrev pub closed_dir : Folder → List Around → Standing
closed_dir done [] = record { done = done; above = []; file = None; over = true }
closed_dir done (a ∷ above) = record { done = both a.done (dir_then a.name done nothing); above = above; file = None; over = false }
