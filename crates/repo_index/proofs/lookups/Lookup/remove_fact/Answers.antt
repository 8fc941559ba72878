use Rattle.std.proofs.Common.{◌≢◌, ◌↔◌, List, false, subst, Contains}
use Rattle.std.specs.BTreeSet.{Updates}
use Rattle.repo_index.specs.Order.{name_first, name_first_total}
use Rattle.repo_index.specs.declared.facts.Fact.{Fact}
use Rattle.repo_index.proofs.OrderLemmas.{name_first_exact}
use Rattle.repo_index.proofs.LookupLemmas.{leaves_fact, made_less}
use Rattle.repo_index.proofs.lookups.Lookup.remove_fact.Goals as goal

left : (c : goal.After-remove) → (other : Fact) → Contains c.remove.new.self.keys other ↔ (Contains c.self.inside.by_name.keys other × (other ≢ c.args.fact))
left c = leaves_fact name_first_total name_first_exact c.self.inside.by_name c.remove.new.self c.args.fact
    (subst (λ (k : Fact). Updates name_first c.self.inside.by_name c.remove.new.self k false) c.of.ensures c.remove.ensures.updates)

pub invariant_of-self : goal.invariant_of-self
invariant_of-self c = made_less c.self.inside.by_name.keys c.remove.new.self.keys c.args.fact c.self.invariant (left c)

pub returns : goal.returns
returns c = subst (λ (fs : List Fact). (other : Fact) → Contains c.remove.new.self.keys other ↔ (Contains fs other × (other ≢ c.args.fact))) c.self.view_is (left c)
