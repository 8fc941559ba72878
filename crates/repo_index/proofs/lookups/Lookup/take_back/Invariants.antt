-- The first of the facts noted were removed.
use Rattle.std.proofs.Common.{take, ◌↔◌, Contains}
use Rattle.repo_index.specs.declared.facts.Fact.{Fact}
use Rattle.repo_index.proofs.lookups.Lookup.take_back.Given as goal

abbrev pub invariant-loop-fact : goal.invariant-loop-fact
invariant-loop-fact l = (other : Fact) → Contains l.self other ↔ (Contains l.fn.self other × ¬ Contains (take l.fact-index l.noted) other)
