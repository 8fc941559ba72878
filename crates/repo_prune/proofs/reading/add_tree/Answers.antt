use Rattle.std.proofs.Common.{◌++◌, ◌∷◌, [], None, ◌∙◌, sym, subst}
use Rattle.repo_reach.specs.Walks.{StandsAt}
use Rattle.repo_prune.proofs.TreeReading.{on_any, awaits_stay, unchanged_trees, unchanged_parts, found_more, parts_more, none_parts}
use Rattle.repo_prune.proofs.reading.add_tree.Goals as goal

pub returns-in_err-add-clause-still : goal.returns-in_err-add-clause-still
returns-in_err-add-clause-still c = on_any c.from_residual.result
    (λ texts fact is a. awaits_stay c.args.lookup.now texts c.args.trees.now c.add.new.self fact (unchanged_trees c.args.trees.now c.add.new.self c.in_err-add.ensures.same) c.in_err-add.ensures.same.stand.roots (c.in_err-add.ensures.err texts a.walks.walk) (unchanged_parts c.args.trees.now c.add.new.self c.in_err-add.ensures.same a.walks.parts) a)

pub returns-in-Ok-clause-on : goal.returns-in-Ok-clause-on
returns-in-Ok-clause-on c = λ texts fact text a is named tree.
    let added = c.in_ok-add.ensures.added in
    c.in-Ok.ensures.on (texts ++ text ∷ []) (record {
      walk = c.in_ok-add.ensures.walk texts text a.walks.walk (subst (λ n. StandsAt c.args.trees.now.seen.items n None) is a.next.2) named tree;
      found = found_more c.args.lookup.now texts c.args.trees.now c.add.new.self fact c.args.name c.args.nodes.now c.args.next added.0 a is added.1 added.2 added.3;
      parts = parts_more c.args.trees.now c.add.new.self c.args.name added.0 added.1 added.3 a.walks.parts;
    })

pub returns-in-Err-clause-still : goal.returns-in-Err-clause-still
returns-in-Err-clause-still c = λ texts fact is a.
    let added = c.in_ok-add.ensures.added in
    let old = c.args.trees.now in
    let one = added.1 in
    let none = subst (λ n. StandsAt old.seen.items n None) (is ∙ sym one.name) a.next.2 in
    awaits_stay c.args.lookup.now texts old c.take_back.new.self fact (c.take_back.ensures.trees old c.add.new.self added.0 added.3 c.read_on.ensures.kept)
    (c.take_back.ensures.roots ∙ c.read_on.ensures.kept.roots ∙ added.3.stand.roots) (c.take_back.ensures.walk texts old c.add.new.self added.0 a.walks.walk none added.3 c.read_on.ensures.kept) (none_parts c.take_back.new.self.seen.items c.take_back.ensures.never) a
