use Rattle.std.proofs.Common.{rules}
use Rattle.repo_wire.specs.declared.messages.Say.{Say}
use Rattle.repo_store.specs.Stores.{RemovesObject}
use Rattle.repo_store.proofs.Arming.{write_failed}
use Rattle.repo_store.proofs.Failing.{removed_made}
use Rattle.repo_store.proofs.Changes.{removes_can}
use Rattle.repo_store.proofs.object_answers.answer_delete.Goals as goal
use Rattle.std.proofs.Common.{arith}
use Rattle.repo_store.proofs.Arming.{unasked, looked_up, look_up_failed, write_made}

pub returns-in-Err-remove-clause-armed : goal.returns-in-Err-remove-clause-armed
returns-in-Err-remove-clause-armed g c h =
    let r = c.in-Ok.ensures.law h in
    let old = g.S.Shelf.store c.args.shelf.now in
    write_failed (RemovesObject c.args.kind c.args.name.now) _ _ _ _ _ _ old _ (g.S.Shelf.store c.remove.new.self) _ Say.Done _ c.in-Ok.live c.in-Err-remove.error c.refusal-in-Err-remove.ensures r.1 (search rules) (omega arith) (λ x. elim x [ ], λ x. elim x [ ]) (λ say x. elim x [ ])
    (removed_made old c.in-Ok.live c.args.token c.args.kind c.args.name.now r.0 (search rules) (search rules)) (removes_can old c.args.kind c.args.name.now) (c.in-Ok.ensures.armed h) (c.in-Err-remove.ensures.armed (c.in-Ok.ensures.honest h)) (search rules)

pub returns-then-append_only-clause-armed : goal.returns-then-append_only-clause-armed
returns-then-append_only-clause-armed g c h =
    unasked _ _ (g.S.Shelf.store c.args.shelf.now) _ _ (g.S.Shelf.store c.args.shelf.now) (λ x. elim x [ ]) (λ w. w.1 tt) (λ fault. absurd (cc)) (search rules)

pub returns-in-Err-clause-armed : goal.returns-in-Err-clause-armed
returns-in-Err-clause-armed g c h =
    look_up_failed _ _ _ _ (g.S.Shelf.store c.args.shelf.now) _ _ (g.S.Shelf.store c.live_as.new.self) c.in-Err.error (search rules) (c.in-Err.ensures.armed h) (omega arith) (search rules) (c.in-Err.ensures.law h) (λ x. elim x [ ])

pub returns-in-None-clause-armed : goal.returns-in-None-clause-armed
returns-in-None-clause-armed g c h =
    looked_up _ _ _ _ (g.S.Shelf.store c.args.shelf.now) _ _ (g.S.Shelf.store c.live_as.new.self) c.in-Ok.live (c.in-Ok.ensures.armed h) (omega arith) (λ x. elim x [ ]) (λ w. w.1 tt) (λ fault. absurd (cc)) (search rules)

pub returns-in-Some-false-clause-armed : goal.returns-in-Some-false-clause-armed
returns-in-Some-false-clause-armed g c h =
    looked_up _ _ _ _ (g.S.Shelf.store c.args.shelf.now) _ _ (g.S.Shelf.store c.live_as.new.self) c.in-Ok.live (c.in-Ok.ensures.armed h) (omega arith) (λ x. elim x [ ]) (λ w. w.1 tt) (λ fault. absurd (cc)) (search rules)

pub returns-in-Ok-remove-clause-armed : goal.returns-in-Ok-remove-clause-armed
returns-in-Ok-remove-clause-armed g c h =
    write_made (RemovesObject c.args.kind c.args.name.now) _ _ _ _ _ _ (g.S.Shelf.store c.args.shelf.now) _ (g.S.Shelf.store c.remove.new.self) _ _ c.in-Ok.live (omega arith) (λ x. elim x [ ], λ x. elim x [ ]) (λ say x. elim x [ ]) (λ fault. absurd (cc)) (c.in-Ok.ensures.armed h) (c.in-Ok-remove.ensures.armed (c.in-Ok.ensures.honest h)) (search rules)
