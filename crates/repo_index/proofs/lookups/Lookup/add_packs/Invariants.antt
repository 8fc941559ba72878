-- The facts of the first packs were added, and the new ones of them noted.
use Rattle.std.proofs.Common.{take, List}
use Rattle.repo_index.specs.IndexText.{facts_in}
use Rattle.repo_index.specs.Lookups.{Joins, Grew}
use Rattle.repo_index.specs.declared.facts.Fact.{Fact}
use Rattle.repo_index.proofs.lookups.Lookup.add_packs.Given as goal

abbrev pub invariant-loop-listed : goal.invariant-loop-listed
invariant-loop-listed l = Joins l.fn.self (facts_in (take l.listed-index l.packs)) l.self × ((base : List Fact) → Grew base l.fn.noted.items l.fn.self → Grew base l.noted.items l.self)
