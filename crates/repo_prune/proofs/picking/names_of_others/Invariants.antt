use Rattle.std.proofs.Common.{take}
use Rattle.repo_prune.specs.inner.Picking.{AreOfOthers}
use Rattle.repo_prune.proofs.picking.names_of_others.Given as goal

abbrev pub invariant-loop-row : goal.invariant-loop-row
invariant-loop-row l = AreOfOthers l.host (take l.row-index l.rows) l.names.items
