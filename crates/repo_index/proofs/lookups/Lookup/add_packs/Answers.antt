use Rattle.std.proofs.Common.{List, subst, arith}
use Rattle.std.proofs.Math.Seq.{take_all}
use Rattle.repo_index.specs.IndexText.{facts_in}
use Rattle.repo_index.specs.Lookups.{Joins}
use Rattle.repo_index.specs.declared.facts.Fact.{Fact}
use Rattle.repo_index.specs.declared.facts.PackFacts.{PackFacts}
use Rattle.repo_index.proofs.LookupLemmas.{joins_pack}
use Rattle.repo_index.proofs.lookups.Lookup.add_packs.Goals as goal

pub returns-in_err-add_facts-clause-noted : goal.returns-in_err-add_facts-clause-noted
returns-in_err-add_facts-clause-noted c = λ base g. c.add_facts.ensures.noted base (c.loop-listed.invariant.1 base g)

pub loop-listed-preserved : goal.loop-listed-preserved
loop-listed-preserved c = (
  joins_pack c.args.self.now c.loop-listed.self c.add_facts.new.self c.args.packs.now c.loop-listed.listed-index c.listed-item.result
      c.loop-listed-test.true c.listed-item.is c.loop-listed.invariant.0
      (subst (λ (fs : List Fact). Joins c.loop-listed.self fs c.add_facts.new.self) c.as_slice.ensures c.in_ok-add_facts.ensures.ok),
  λ base g. c.add_facts.ensures.noted base (c.loop-listed.invariant.1 base g),
)

pub returns-clause-ok : goal.returns-clause-ok
returns-clause-ok c =
    subst (λ (ps : List PackFacts). Joins c.args.self.now (facts_in ps) c.loop-listed.self) (take_all c.loop-listed.listed-index c.args.packs.now (omega arith)) c.loop-listed.invariant.0
