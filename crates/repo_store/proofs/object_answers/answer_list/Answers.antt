use Rattle.std.proofs.Common.{rules, arith}
use Rattle.repo_store.proofs.Arming.{looked_up, look_up_failed}
use Rattle.repo_store.proofs.object_answers.answer_list.Goals as goal

pub returns-in-Ok-clause-armed : goal.returns-in-Ok-clause-armed
returns-in-Ok-clause-armed g c h =
    looked_up _ _ _ _ (g.S.Shelf.store c.args.shelf.now) _ _ (g.S.Shelf.store c.names_after.new.self) c.in-Ok.page (c.in-Ok.ensures.armed h) (omega arith) (λ x. elim x [ ]) (λ w. w.0 tt) (λ fault. absurd (cc)) (search rules)

pub returns-in-Err-clause-armed : goal.returns-in-Err-clause-armed
returns-in-Err-clause-armed g c h =
    look_up_failed _ _ _ _ (g.S.Shelf.store c.args.shelf.now) _ _ (g.S.Shelf.store c.names_after.new.self) c.in-Err.error (search rules) (c.in-Err.ensures.armed h) (omega arith) tt (c.in-Err.ensures.law h) (λ x. elim x [ ])
