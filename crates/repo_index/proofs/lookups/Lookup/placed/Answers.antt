use Rattle.std.proofs.Common.{rules, ◌≡◌, ◌∙◌, List, subst}
use Rattle.repo_index.specs.Lookups.{HasSame}
use Rattle.repo_index.specs.declared.facts.Fact.{Fact}
use Rattle.repo_index.proofs.lookups.Lookup.placed.Goals as goal

pub returns : goal.returns
returns c =
    let items : c.in_ok-facts.facts.items ≡ c.self.inside.by_name.keys = search rules in
    subst (λ (facts : List Fact). HasSame facts c.of.result) (items ∙ c.self.view_is) c.of.ensures
