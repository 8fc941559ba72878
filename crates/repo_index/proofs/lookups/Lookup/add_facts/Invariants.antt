-- The first facts were added, and the new ones of them noted.
use Rattle.std.proofs.Common.{take, List}
use Rattle.repo_index.specs.Lookups.{Joins, Grew}
use Rattle.repo_index.specs.declared.facts.Fact.{Fact}
use Rattle.repo_index.proofs.lookups.Lookup.add_facts.Given as goal

abbrev pub invariant-loop-fact : goal.invariant-loop-fact
invariant-loop-fact l = Joins l.fn.self (take l.fact-index l.facts) l.self × ((base : List Fact) → Grew base l.fn.noted.items l.fn.self → Grew base l.noted.items l.self)
