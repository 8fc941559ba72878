use Rattle.std.proofs.Common.{◌≡◌, Some, None, ap, subst, ◌∙◌}
use Rattle.repo_backup.specs.Pieces.{LaysOn, LeavesPacked, sealing_in}
use Rattle.repo_backup.specs.declared.piece_works.Took.{Took}
use Rattle.repo_backup.proofs.LayingOn.{lays_on, lays_pack, lays_large, lays_less}
use Rattle.repo_backup.proofs.PackingLemmas.{on_any}
use Rattle.repo_backup.proofs.walks.lay_on.Goals as goal

pub returns-in_err-listed-clause-err : goal.returns-in_err-listed-clause-err
returns-in_err-listed-clause-err c =
    let some = (c.may_lay.ensures.0 c.if-not-may_lay.false).2 in
    let e = c.in_err-listed.ensures in
    on_any _ c.from_residual.result (lays_less c.args.lookup.now c.args.work.now c.lay.new.self e.params e.version e.aims some e.still e.err.0 e.err.1)

pub returns-in-All-default-Some-clause-ok : goal.returns-in-All-default-Some-clause-ok
returns-in-All-default-Some-clause-ok c =
    let facts = c.args.lookup.now in
    let old = c.args.work.now in
    let new = c.lay.new.self in
    let some = (c.may_lay.ensures.0 c.if-not-may_lay.false).2 in
    let e = c.in_ok-listed.ensures in
    let k = c.in-All-default-Some in
    let took : Took = Took.All k.field-0 (Some k.listed) in
    let is : c.in_ok-listed.field-0 ≡ took = k.is ∙ ap (Took.All k.field-0) k.field-1-is in
    lays_pack facts old new e.params e.version e.aims some k.field-0 k.listed (subst (λ t. LaysOn facts old t new) is e.ok) (subst (λ t. LeavesPacked (sealing_in old.walk.above.items) t new) is e.packed)

pub returns-in-All-default-None-clause-ok : goal.returns-in-All-default-None-clause-ok
returns-in-All-default-None-clause-ok c =
    let facts = c.args.lookup.now in
    let old = c.args.work.now in
    let new = c.lay.new.self in
    let some = (c.may_lay.ensures.0 c.if-not-may_lay.false).2 in
    let e = c.in_ok-listed.ensures in
    let k = c.in-All-default-None in
    let took : Took = Took.All k.field-0 None in
    let is : c.in_ok-listed.field-0 ≡ took = k.is ∙ ap (Took.All k.field-0) k.field-1-is in
    lays_on facts old new e.params e.version e.aims some k.field-0 (subst (λ t. LaysOn facts old t new) is e.ok) (subst (λ t. LeavesPacked (sealing_in old.walk.above.items) t new) is e.packed)

pub returns-in-TooLarge-clause-ok : goal.returns-in-TooLarge-clause-ok
returns-in-TooLarge-clause-ok c =
    let facts = c.args.lookup.now in
    let old = c.args.work.now in
    let new = c.lay.new.self in
    let some = (c.may_lay.ensures.0 c.if-not-may_lay.false).2 in
    let e = c.in_ok-listed.ensures in
    lays_large facts old new e.params e.version e.aims some (subst (λ t. LaysOn facts old t new) c.in-TooLarge.is e.ok)
