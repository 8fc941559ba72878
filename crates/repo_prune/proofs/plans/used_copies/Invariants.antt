use Rattle.std.proofs.Common.{take, Contains}
use Rattle.repo_index.specs.declared.facts.Fact.{Fact}
use Rattle.repo_prune.specs.Plans.{AreCopiesOf}
use Rattle.repo_prune.proofs.plans.used_copies.Given as goal

abbrev pub invariant-loop-fact : goal.invariant-loop-fact
invariant-loop-fact l = ((fact : Fact) → Contains l.own fact → Contains l.lookup fact) → AreCopiesOf l.used l.lookup (take l.fact-index l.own) l.copies.items
