use Rattle.std.proofs.Common.{[], Vec, Global, map, ap, inr, ◌∙◌}
use Rattle.std.proofs.lemmas.Result.{IfOk-weaker}
use Rattle.repo_reach.specs.Collected.{root_of}
use Rattle.repo_reach.specs.declared.roots.Root.{Root}
use Rattle.repo_prune.specs.Keeping.{Row}
use Rattle.repo_prune.specs.PruneStates.{known_in}
use Rattle.repo_prune.proofs.PruneTrees.{first_walk, first_over, first_parts, tree_asked, cannot_go_on}
use Rattle.repo_prune.proofs.prunes.Prune.after_packs.Goals as goal

pub returns-in-Ask-clause-on : goal.returns-in-Ask-clause-on
returns-in-Ask-clause-on c = λ who es w h.
    let k = known_in c.args.self.now in
    let on = rw c.in-Ask.is at c.in_ok-fact.ensures.on in
    let walks = first_walk k.facts c.new-trees.result c.new-trees.ensures.walk c.new-trees.ensures.none in
    let awaits = on [] walks in
    let roots = ap (λ (v : Vec Root Global). v.items) (c.read_on.ensures.kept.roots ∙ c.new-trees.ensures.roots) ∙ c.in_ok-roots.ensures ∙ ap (map (λ (row : Row). root_of row.1.tree row.1.version)) c.as_slice.ensures.value in
    rw c.range_ask.ensures.ask (tree_asked k who c.args.token es [] c.read_on.new.trees c.in-Ask.fact w (first_over k c.read_on.new.trees es h.0 h.1 roots) awaits)

pub returns-in-Done-clause-on : goal.returns-in-Done-clause-on
returns-in-Done-clause-on c = IfOk-weaker c.after_trees.result _ _ (λ onward comes who es w h.
    let k = known_in c.args.self.now in
    let on = rw c.in-Done.is at c.in_ok-fact.ensures.on in
    let walks = first_walk k.facts c.new-trees.result c.new-trees.ensures.walk c.new-trees.ensures.none in
    let done = on [] walks in
    let roots = ap (λ (v : Vec Root Global). v.items) (c.read_on.ensures.kept.roots ∙ c.new-trees.ensures.roots) ∙ c.in_ok-roots.ensures ∙ ap (map (λ (row : Row). root_of row.1.tree row.1.version)) c.as_slice.ensures.value in
    comes who es w (record { texts = []; over = first_over k c.read_on.new.trees es h.0 h.1 roots; walks = done.0; whole = done.1 })) c.after_trees.ensures.on

pub returns-in-Ended-clause-on : goal.returns-in-Ended-clause-on
returns-in-Ended-clause-on c = λ who es w h.
    let k = known_in c.args.self.now in
    let on = rw c.in-Ended.is at c.in_ok-fact.ensures.on in
    let walks = first_walk k.facts c.new-trees.result c.new-trees.ensures.walk c.new-trees.ensures.none in
    let roots = ap (λ (v : Vec Root Global). v.items) (c.read_on.ensures.kept.roots ∙ c.new-trees.ensures.roots) ∙ c.in_ok-roots.ensures ∙ ap (map (λ (row : Row). root_of row.1.tree row.1.version)) c.as_slice.ensures.value in
    rw c.end.ensures.end (λ come. inr (cannot_go_on k es [] c.read_on.new.trees (first_over k c.read_on.new.trees es h.0 h.1 roots) come (first_parts es h.1) c.in-Ended.why (on [] walks)))

pub returns-in-Away-clause-on : goal.returns-in-Away-clause-on
returns-in-Away-clause-on c = λ who es w h.
    let k = known_in c.args.self.now in
    let on = rw c.in-Away.is at c.in_ok-fact.ensures.on in
    on [] (first_walk k.facts c.new-trees.result c.new-trees.ensures.walk c.new-trees.ensures.none)
