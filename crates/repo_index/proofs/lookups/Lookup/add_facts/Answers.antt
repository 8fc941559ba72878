use Rattle.std.proofs.Common.{List, subst, arith}
use Rattle.std.proofs.Math.Seq.{take_all}
use Rattle.repo_index.specs.Lookups.{Joins}
use Rattle.repo_index.specs.declared.facts.Fact.{Fact}
use Rattle.repo_index.proofs.LookupLemmas.{joins_more}
use Rattle.repo_index.proofs.lookups.Lookup.add_facts.Goals as goal

pub loop-fact-preserved : goal.loop-fact-preserved
loop-fact-preserved c = (
  joins_more c.args.self.now c.args.facts.now c.loop-fact.self c.note_fact.new.self c.loop-fact.fact-index _ c.loop-fact-test.true c.loop-fact.invariant.0 c.in_ok-note_fact.ensures.ok,
  λ base g. c.note_fact.ensures.noted base (c.loop-fact.invariant.1 base g),
)

pub returns-in_err-note_fact-clause-noted : goal.returns-in_err-note_fact-clause-noted
returns-in_err-note_fact-clause-noted c = λ base g. c.note_fact.ensures.noted base (c.loop-fact.invariant.1 base g)

pub returns-clause-ok : goal.returns-clause-ok
returns-clause-ok c =
    subst (λ (fs : List Fact). Joins c.args.self.now fs c.loop-fact.self) (take_all c.loop-fact.fact-index c.args.facts.now (omega arith)) c.loop-fact.invariant.0
