use Rattle.std.proofs.Common.{◌≡◌, map, take}
use Rattle.repo_reach.specs.Collected.{root_of}
use Rattle.repo_prune.specs.Keeping.{Row}
use Rattle.repo_prune.proofs.advancing.roots_of.Given as goal

abbrev pub invariant-loop-row : goal.invariant-loop-row
invariant-loop-row l = l.roots.items ≡ map (λ (row : Row). root_of row.1.tree row.1.version) (take l.row-index l.rows)
