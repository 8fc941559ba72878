use Rattle.std.proofs.Common.{◌≡◌, ap, sym, subst, ◌∙◌}
use Rattle.std.proofs.lemmas.Option.{same_Some}
use Rattle.repo_check.specs.Walks.{TreeIsNoted, walk_of}
use Rattle.repo_check.proofs.surveys.Survey.take_back_tree.Goals as goal

pub returns-in-Some-clause-back : goal.returns-in-Some-clause-back
returns-in-Some-clause-back c = λ roots fact note walk mark awaits noted.
    let tree = c.in-Some.tree in
    let same : tree ≡ fact.name = same_Some _ _ (sym c.in-Some.is ∙ mark.1 roots fact awaits) in
    c.take_back.ensures walk note mark.0 (ap walk.known.kept same ∙ awaits.due.unread) (ap walk.known.faults same ∙ awaits.due.faultless)
    (subst (λ n. TreeIsNoted walk n note (walk_of c.args.self.now.walk)) (sym same) noted)

pub returns-in_default-clause-back : goal.returns-in_default-clause-back
returns-in_default-clause-back c = λ roots fact note walk mark awaits noted. absurd (c.in_default.not-Some fact.name (mark.1 roots fact awaits))
