use Rattle.std.proofs.Common.{◌≡◌, sym, subst, ◌∙◌}
use Rattle.std.proofs.lemmas.Option.{same_Some}
use Rattle.repo_check.specs.Walks.{IsTreeDue, walk_of}
use Rattle.repo_check.proofs.Walking.{due_is}
use Rattle.repo_check.proofs.walks.Walk.asked.Goals as goal

pub returns-in-Some : goal.returns-in-Some
returns-in-Some c = λ roots fact h.
    let known = (walk_of c.args.self.now).known in
    let tree = c.in-Some.tree in
    let here : tree ≡ fact.name = same_Some _ _ (c.in-Some.ensures h.visit h.here) ∙ h.of_tree in
    due_is known tree fact c.due.result (subst (λ n. IsTreeDue known n fact) (sym here) h.due) c.due.ensures.due c.due.ensures.settled
