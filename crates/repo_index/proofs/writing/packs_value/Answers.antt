use Rattle.std.proofs.Common.{rules, ◌≡◌, ◌++◌, ◌∷◌, [], ap, ◌∙◌, arith}
use Rattle.std.proofs.Math.Seq.{take_all}
use Rattle.serde_json.specs.Data.{array}
use Rattle.serde_json.proofs.Views.{view-Array}
use Rattle.repo_index.specs.IndexWriting.{pack_items}
use Rattle.repo_index.proofs.WritingLemmas.{packs_grow, are_packs_grow}
use Rattle.repo_index.proofs.writing.packs_value.Goals as goal

pub loop-listed-preserved : goal.loop-listed-preserved
loop-listed-preserved c =
    let items : c.push.new.self.items ≡ c.loop-listed.items.items ++ c.in_ok-item.item ∷ [] = search rules in
    record {
      same = rw items (packs_grow c.loop-listed.items.items c.in_ok-item.item c.args.packs.now c.loop-listed.listed-index c.listed-item.result
          c.loop-listed-test.true c.listed-item.is c.loop-listed.invariant.same c.in_ok-item.ensures.value);
      made = are_packs_grow c.args.packs.now c.loop-listed.listed-index c.listed-item.result
          c.loop-listed-test.true c.listed-item.is c.loop-listed.invariant.made c.in_ok-item.ensures.made;
    }

pub returns-clause-value : goal.returns-clause-value
returns-clause-value c =
    view-Array c.loop-listed.items ∙ ap array (c.loop-listed.invariant.same ∙ ap pack_items (take_all c.loop-listed.listed-index c.args.packs.now (omega arith)))
