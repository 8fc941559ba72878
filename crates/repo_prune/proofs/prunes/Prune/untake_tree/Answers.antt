use Rattle.std.proofs.Common.{sym, ap, subst, ◌∙◌}
use Rattle.repo_index.specs.declared.facts.Fact.{Fact}
use Rattle.repo_prune.specs.Reading.{HasTaken}
use Rattle.repo_prune.specs.declared.prunes.Stage.{Stage}
use Rattle.repo_reach.specs.declared.trees.Trees.{Trees}
use Rattle.repo_prune.proofs.PruneStages.{same_walk, same_fact}
use Rattle.repo_prune.proofs.prunes.Prune.untake_tree.Goals as goal

pub returns-in-Walking-clause-again : goal.returns-in-Walking-clause-again
returns-in-Walking-clause-again c = λ trees fact is.
    let w = c.in-Walking in
    let both = sym w.is ∙ is in
    let t = same_walk w.trees trees w.field-1 fact both in
    let f = same_fact w.trees trees w.field-1 fact both in
    record {
      now = c.untake.new.trees;
      stage_is = ap (λ (g : Fact). Stage.Walking c.untake.new.trees g) f;
      roots = c.untake.ensures.roots ∙ ap (λ (x : Trees). x.roots) t;
      still = λ facts texts before taken awaits. c.untake.ensures.still facts texts before fact (subst (HasTaken before fact.name) (sym t) taken) awaits;
    }
