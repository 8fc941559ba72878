use Rattle.std.proofs.Common.{◌≡◌, map, take}
use Rattle.std.specs.Borrow.{Bor}
use Rattle.repo_prune.specs.Keeping.{Row}
use Rattle.repo_prune.proofs.keeping.newest_down.Given as goal

abbrev pub invariant-loop-row : goal.invariant-loop-row
invariant-loop-row l = map (λ (r : Bor Row). r.now) l.sorted.items ≡ take l.row-index l.rows
