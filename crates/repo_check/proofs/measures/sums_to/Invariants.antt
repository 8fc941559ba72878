use Rattle.std.proofs.Common.{◌↔◌, drop}
use Rattle.repo_check.specs.Measures.{Measures}
use Rattle.repo_check.proofs.measures.sums_to.Given as goal

abbrev pub invariant-loop-name : goal.invariant-loop-name
invariant-loop-name l = Measures l.lookup l.content l.size ↔ Measures l.lookup (drop l.name-index l.content) l.left
