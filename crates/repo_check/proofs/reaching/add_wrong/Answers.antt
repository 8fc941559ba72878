use Rattle.std.proofs.Common.{◌∷◌, [], subst, Contains}
use Rattle.repo_name.specs.NameMaps.{found}
use Rattle.repo_check.specs.Visiting.{GoesOnWrong}
use Rattle.repo_check.proofs.Breaking.{wrong_one}
use Rattle.repo_check.proofs.Giving.{adds_as, adds_none, one_name}
use Rattle.repo_check.proofs.reaching.add_wrong.Goals as goal

pub returns-in-Some : goal.returns-in-Some
returns-in-Some c =
    let trees = found c.args.known.now.kept in
    let v = c.args.visit in
    let tree = c.in-Some.tree in
    let wrong : GoesOnWrong trees v tree = rw c.in-Some.is at c.wrong_next.ensures.some in
    adds_as c.add_name.result (λ n. Contains (tree ∷ []) n) (GoesOnWrong trees v) c.args.set.now c.add_name.new.set
    (λ n. (λ among. subst (GoesOnWrong trees v) ((one_name tree n).0 among) wrong, λ other. (one_name tree n).1 (wrong_one trees v tree n wrong other))) c.add_name.ensures

pub returns-in-None : goal.returns-in-None
returns-in-None c = adds_none (GoesOnWrong (found c.args.known.now.kept) c.args.visit) c.args.set.now (λ n wrong. c.wrong_next.ensures.none c.in-None.is n wrong)
