use Rattle.std.proofs.Common.{List, subst, sym}
use Rattle.repo_index.specs.IndexText.{facts_in}
use Rattle.repo_index.specs.Lookups.{Joins, Grew}
use Rattle.repo_index.specs.declared.facts.Fact.{Fact}
use Rattle.repo_index.specs.declared.facts.PackFacts.{PackFacts}
use Rattle.repo_index.proofs.LookupLemmas.{grew_none}
use Rattle.repo_index.proofs.lookups.Lookup.add_noted.Goals as goal

pub returns-in-Ok-clause-ok : goal.returns-in-Ok-clause-ok
returns-in-Ok-clause-ok c =
    subst (λ (ps : List PackFacts). Joins c.args.self.now (facts_in ps) c.add_packs.new.self) c.packs.ensures c.in-Ok.ensures.ok

pub returns-in-Err-clause-err : goal.returns-in-Err-clause-err
returns-in-Err-clause-err c =
    let old = c.args.self.now in
    let begun : Grew old c.new-noted.result.items old = subst (λ (fs : List Fact). Grew old fs old) (sym c.new-noted.ensures.items) (grew_none old) in
    let grew : Grew old c.as_slice.result.now c.add_packs.new.self = subst (λ (fs : List Fact). Grew old fs c.add_packs.new.self) (sym c.as_slice.ensures.value) (c.add_packs.ensures.noted old begun) in
    c.take_back.ensures old grew

pub returns-in-Ok-clause-noted : goal.returns-in-Ok-clause-noted
returns-in-Ok-clause-noted c =
    let old = c.args.self.now in
    let begun : Grew old c.new-noted.result.items old = subst (λ (fs : List Fact). Grew old fs old) (sym c.new-noted.ensures.items) (grew_none old) in
    subst (λ (fs : List Fact). Grew old fs c.add_packs.new.self) (sym c.of.ensures) (c.add_packs.ensures.noted old begun)
