use Rattle.std.proofs.Common.{rules, ◌≡◌, ◌++◌, ◌∷◌, [], ap, ◌∙◌, arith}
use Rattle.std.proofs.Math.Seq.{take_all}
use Rattle.std.proofs.lemmas.List.Elements.{All-more}
use Rattle.serde_json.specs.Data.{array}
use Rattle.serde_json.proofs.Views.{view-Array}
use Rattle.repo_name.specs.declared.kinds.BlobKind.TheVariants.{Content}
use Rattle.repo_index.specs.IndexText.{IsFact}
use Rattle.repo_index.specs.IndexWriting.{fact_items}
use Rattle.repo_index.specs.declared.facts.Fact.{Fact}
use Rattle.repo_index.proofs.WritingLemmas.{facts_grow}
use Rattle.repo_index.proofs.writing.facts_value.Goals as goal

-- any fact
abbrev some_fact : Fact
some_fact = record { kind = Content; name = record { 0 = [] }; place = record { pack = record { 0 = [] }; offset = 0; length = 0 } }

pub loop-fact-preserved : goal.loop-fact-preserved
loop-fact-preserved c =
    let items : c.push.new.self.items ≡ c.loop-fact.items.items ++ c.in_ok-item.item ∷ [] = search rules in
    record {
      same = rw items (facts_grow c.loop-fact.items.items c.in_ok-item.item c.args.facts.now c.loop-fact.fact-index some_fact
          c.loop-fact-test.true c.loop-fact.invariant.same c.in_ok-item.ensures.value);
      made = All-more IsFact c.args.facts.now c.loop-fact.fact-index some_fact c.loop-fact-test.true c.loop-fact.invariant.made c.fact_value.ensures.made;
    }

pub returns-clause-value : goal.returns-clause-value
returns-clause-value c =
    view-Array c.loop-fact.items ∙ ap array (c.loop-fact.invariant.same ∙ ap fact_items (take_all c.loop-fact.fact-index c.args.facts.now (omega arith)))
