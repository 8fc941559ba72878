use Rattle.std.proofs.Common.{arith, ◌≡◌, ◌+◌, suc, List, sym, subst}
use Rattle.repo_name.specs.NameMaps.{found}
use Rattle.repo_name.specs.declared.names.Name.{Name}
use Rattle.repo_check.specs.Visiting.{IsBelow, IsOneOf}
use Rattle.repo_check.proofs.Walking.{above_end, added_as, ones_all}
use Rattle.repo_check.proofs.walks.add_below.Goals as goal

pub returns-clause-among : goal.returns-clause-among
returns-clause-among c =
    let v = c.args.visit in
    let next : v.depth + 1 ≡ suc v.depth = omega arith in
    added_as (IsOneOf v.follows (v.depth + 1) c.below-trees.result.now) (IsBelow (found c.args.known.now.kept) v) c.args.visits.now c.add_all.new.visits
    (λ w one. (above_end v.depth c.if-visit-ge-DEPTH.false, subst (λ (ts : List Name). IsOneOf v.follows (suc v.depth) ts w) c.below-trees.ensures (subst (λ d. IsOneOf v.follows d c.below-trees.result.now w) next one))) c.add_all.ensures.among

pub returns-clause-all : goal.returns-clause-all
returns-clause-all c =
    let v = c.args.visit in
    let next : v.depth + 1 ≡ suc v.depth = omega arith in
    ones_all c.add_all.result v.follows (v.depth + 1) c.below-trees.result.now c.add_all.new.visits (IsBelow (found c.args.known.now.kept) v)
    (λ w below. subst (λ d. IsOneOf v.follows d c.below-trees.result.now w) (sym next) (subst (λ (ts : List Name). IsOneOf v.follows (suc v.depth) ts w) (sym c.below-trees.ensures) below.1)) c.add_all.ensures.all
