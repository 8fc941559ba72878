use Rattle.std.proofs.Common.{refl, sym, ◌∙◌}
use Rattle.repo_name.specs.NameMaps.{found}
use Rattle.repo_check.specs.Visiting.{IsBehind, visit_at}
use Rattle.repo_check.proofs.Walking.{added_one}
use Rattle.repo_check.proofs.walks.add_behind.Goals as goal

pub returns-in-Some-clause-among : goal.returns-in-Some-clause-among
returns-in-Some-clause-among c =
    let v = c.args.visit in
    added_one c.add.result (IsBehind (found c.args.known.now.kept) v) c.args.visits.now c.add.new.self (visit_at v.follows v.depth c.in-Some.tree) (c.in-Some.tree, sym c.next.ensures ∙ c.in-Some.is, refl) c.add.ensures.ok c.add.ensures.err
