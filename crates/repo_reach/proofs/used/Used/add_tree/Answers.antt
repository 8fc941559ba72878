use Rattle.std.proofs.Common.{refl, inl, inr, ⊎_elim}
use Rattle.repo_reach.proofs.Using.{one_added, tree_given}
use Rattle.repo_reach.proofs.used.Used.add_tree.Goals as goal

pub returns-in_ok-insert-clause-tree : goal.returns-in_ok-insert-clause-tree
returns-in_ok-insert-clause-tree c = λ n.
    let one = one_added c.args.self.now.trees c.insert.new.self c.args.seen.now.name c.in_ok-insert.ensures.updates.0 n in
    let was = c.if-is_looked.ensures.0 refl in
    let given = tree_given c.args.seen.now was.0 was.1 was.2 n in
    (λ h. ⊎_elim (λ a. inl a) (λ b. inr (given.0 b)) (one.0 h), λ h. one.1 (⊎_elim (λ a. inl a) (λ b. inr (given.1 b)) h))
