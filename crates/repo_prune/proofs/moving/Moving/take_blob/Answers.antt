use Rattle.std.proofs.Common.{rules, ◌+◌, ◌∙◌, ℕ, ap, sym, subst}
use Rattle.std.proofs.lemmas.Result.{on_err_weaker, IfOk-weaker}
use Rattle.repo_prune.specs.Moving.{BlobWasAdded}
use Rattle.repo_prune.specs.declared.moving.Moving.{Moving}
use Rattle.repo_prune.proofs.Repacking.{added_before, awaits_again}
use Rattle.repo_prune.proofs.moving.Moving.take_blob.Goals as goal
use Rattle.repo_prune.proofs.moving.Moving.take_blob.Goals.{then-self+else-not-has_room+in_ok-add, else-self}

pub returns-clause-err : goal.returns-clause-err
returns-clause-err c = on_err_weaker c.next.result
    (λ stays sent sealed a.
    let was : BlobWasAdded c.args.self.now c.if-self.self sent sealed = elim c.if-self.branch [
      | then-self+else-not-has_room+in_ok-add w ↦ subst (λ (m : Moving). BlobWasAdded c.args.self.now m sent sealed) (sym w.self-is) (w.in_ok-add.ensures.ok sent sealed a (search rules))
      | else-self w ↦ subst (λ (m : Moving). BlobWasAdded c.args.self.now m sent sealed) (sym w.self-is) (added_before c.args.self.now c.args.fact sent sealed a (search rules))
    ] in
    awaits_again c.args.self.now c.if-self.self c.next.new.self c.args.fact sent sealed a was (stays sent sealed was.moving))
    c.next.ensures.err

-- the blob that was awaited was added, now or before
pub returns-clause-added : goal.returns-clause-added
returns-clause-added c = IfOk-weaker c.next.result _ _ (λ moved on sent sealed a long.
    let was : BlobWasAdded c.args.self.now c.if-self.self sent sealed = elim c.if-self.branch [
      | then-self+else-not-has_room+in_ok-add w ↦ subst (λ (m : Moving). BlobWasAdded c.args.self.now m sent sealed) (sym w.self-is) (w.in_ok-add.ensures.ok sent sealed a (search rules))
      | else-self w ↦ subst (λ (m : Moving). BlobWasAdded c.args.self.now m sent sealed) (sym w.self-is) (added_before c.args.self.now c.args.fact sent sealed a (search rules))
    ] in
    c.next.ensures.added ∙ was.added ∙ ap (λ (i : ℕ). i + 1) was.asked)
    c.next.ensures.on
