use Rattle.std.proofs.Common.{◌+◌, [], get_or, sym, subst, take, ap, ◌∙◌}
use Rattle.repo_name.specs.NameMaps.{found}
use Rattle.repo_name.specs.declared.names.Name.{Name}
use Rattle.repo_check.specs.Rounds.{Match}
use Rattle.repo_check.specs.Verdicts.{IsTreeFound}
use Rattle.repo_check.specs.Walks.{known_of, tree_fault}
use Rattle.repo_check.proofs.Matching.{match_all, match_next}
use Rattle.repo_check.proofs.verdicts.trees_found.Goals as goal

pub loop-tree-preserved : goal.loop-tree-preserved
loop-tree-preserved c =
    let Found = IsTreeFound (known_of c.args.known.now) c.args.broken.now in
    let none : Name = record { 0 = [] } in
    subst (λ found. Match Found (take (c.loop-tree.tree-index + 1) c.args.names.now) found) (sym c.in_ok-push.ensures.items)
    (match_next Found c.args.names.now c.loop-tree.tree-index none c.loop-tree.found.items c.fault_of.result c.loop-tree-test.true c.loop-tree.invariant (c.fault_of.ensures ∙ ap (λ is_broken. tree_fault (found c.args.known.now.faults (get_or c.args.names.now c.loop-tree.tree-index none)) (found c.args.known.now.kept (get_or c.args.names.now c.loop-tree.tree-index none)) is_broken) c.contains.ensures))

pub returns : goal.returns
returns c = match_all (IsTreeFound (known_of c.args.known.now) c.args.broken.now) c.args.names.now c.loop-tree.tree-index c.loop-tree.found.items c.loop-tree-test.false c.loop-tree.invariant
