use Rattle.std.proofs.Common.{List, refl, inl, inr, ⊎_elim, subst, sym, Contains}
use Rattle.repo_name.specs.declared.names.Name.{Name}
use Rattle.repo_reach.proofs.Using.{content_given}
use Rattle.repo_reach.proofs.used.Used.add_content.Goals as goal

pub returns-in_ok-add_names-clause-content : goal.returns-in_ok-add_names-clause-content
returns-in_ok-add_names-clause-content c = λ n.
    let one = c.in_ok-add_names.ensures n in
    let listed = c.if-is_listed.ensures.yes refl in
    let given = content_given c.args.seen.now c.in-Some.links c.in-Some.is listed n in
    let same = c.as_slice.ensures.value in
    (λ h. ⊎_elim (λ a. inl a) (λ b. inr (given.0 (subst (λ (l : List Name). Contains l n) same b))) (one.0 h), λ h. one.1 (⊎_elim (λ a. inl a) (λ b. inr (subst (λ (l : List Name). Contains l n) (sym same) (given.1 b))) h))

pub returns-else-is_listed-clause-content : goal.returns-else-is_listed-clause-content
returns-else-is_listed-clause-content c = λ n. (λ h. inl h, λ h. ⊎_elim (λ a. a) (λ b. absurd (c.if-is_listed.ensures.no refl n b)) h)
