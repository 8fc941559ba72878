use Rattle.std.proofs.Common.{drop, ℕ}
use Rattle.repo_check.specs.Measures.{Measures}
use Rattle.repo_check.proofs.measures.has_lost.Given as goal

abbrev pub invariant-loop-name : goal.invariant-loop-name
invariant-loop-name l = ((sum : ℕ) × Measures l.lookup (drop l.name-index l.content) sum) → (sum : ℕ) × Measures l.lookup l.content sum
