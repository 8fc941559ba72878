use Rattle.std.proofs.Common.{List, ◌↔◌, subst, arith, Contains}
use Rattle.std.proofs.Math.Seq.{take_all}
use Rattle.repo_index.specs.declared.facts.Fact.{Fact}
use Rattle.repo_index.proofs.LookupLemmas.{taken_more, taken_whole}
use Rattle.repo_index.proofs.lookups.Lookup.take_back.Goals as goal

pub loop-fact-preserved : goal.loop-fact-preserved
loop-fact-preserved c =
    taken_more c.args.self.now c.loop-fact.self c.remove_fact.new.self c.args.noted.now c.loop-fact.fact-index _ c.loop-fact-test.true c.loop-fact.invariant c.remove_fact.ensures

pub returns : goal.returns
returns c = λ base g.
    taken_whole base c.args.noted.now c.args.self.now c.loop-fact.self g
    (subst (λ (fs : List Fact). (f : Fact) → Contains c.loop-fact.self f ↔ (Contains c.args.self.now f × ¬ Contains fs f)) (take_all c.loop-fact.fact-index c.args.noted.now (omega arith)) c.loop-fact.invariant)
