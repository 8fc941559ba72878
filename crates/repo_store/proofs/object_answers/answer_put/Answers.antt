use Rattle.std.proofs.Common.{rules}
use Rattle.repo_wire.specs.declared.messages.Say.{Say}
use Rattle.repo_store.specs.Stores.{PutsObject}
use Rattle.repo_store.proofs.Arming.{write_failed}
use Rattle.repo_store.proofs.Failing.{put_made}
use Rattle.repo_store.proofs.Changes.{puts_can}
use Rattle.repo_store.proofs.object_answers.answer_put.Goals as goal
use Rattle.std.proofs.Common.{arith}
use Rattle.repo_store.proofs.Arming.{unasked, looked_up, look_up_failed, write_made}

pub returns-in-Err-put-clause-armed : goal.returns-in-Err-put-clause-armed
returns-in-Err-put-clause-armed g c h =
    let r = c.in-Ok.ensures.law h in
    let old = g.S.Shelf.store c.args.shelf.now in
    write_failed (PutsObject c.args.kind c.args.name.now c.args.bytes.now) _ _ _ _ _ _ old _ (g.S.Shelf.store c.put.new.self) _ Say.Done _ c.in-Ok.live c.in-Err-put.error c.refusal-in-Err-put.ensures r.1 (search rules) (omega arith) (λ x. elim x [ ], λ x. elim x [ ]) (λ say x. elim x [ ])
    (put_made old c.in-Ok.live c.args.token c.args.kind c.args.name.now c.args.bytes.now r.0 (search rules) (search rules) (search rules)) (puts_can old c.args.kind c.args.name.now c.args.bytes.now) (c.in-Ok.ensures.armed h) (c.in-Err-put.ensures.armed (c.in-Ok.ensures.honest h)) (search rules)

pub returns-then-bytes-limit_of-clause-armed : goal.returns-then-bytes-limit_of-clause-armed
returns-then-bytes-limit_of-clause-armed g c h =
    unasked _ _ (g.S.Shelf.store c.args.shelf.now) _ _ (g.S.Shelf.store c.args.shelf.now) (λ x. elim x [ ]) (λ w. w.1 tt) (λ fault. absurd (cc)) (search rules)

pub returns-in-Err-clause-armed : goal.returns-in-Err-clause-armed
returns-in-Err-clause-armed g c h =
    look_up_failed _ _ _ _ (g.S.Shelf.store c.args.shelf.now) _ _ (g.S.Shelf.store c.live_as.new.self) c.in-Err.error (search rules) (c.in-Err.ensures.armed h) (omega arith) (search rules) (c.in-Err.ensures.law h) (λ x. elim x [ ])

pub returns-then-is_none-clause-armed : goal.returns-then-is_none-clause-armed
returns-then-is_none-clause-armed g c h =
    looked_up _ _ _ _ (g.S.Shelf.store c.args.shelf.now) _ _ (g.S.Shelf.store c.live_as.new.self) c.in-Ok.live (c.in-Ok.ensures.armed h) (omega arith) (λ x. elim x [ ]) (λ w. w.1 tt) (λ fault. absurd (cc)) (search rules)

pub returns-then-ne-clause-armed : goal.returns-then-ne-clause-armed
returns-then-ne-clause-armed g c h =
    looked_up _ _ _ _ (g.S.Shelf.store c.args.shelf.now) _ _ (g.S.Shelf.store c.live_as.new.self) c.in-Ok.live (c.in-Ok.ensures.armed h) (omega arith) (λ x. elim x [ ]) (λ w. w.1 tt) (λ fault. absurd (cc)) (search rules)

pub returns-in-Ok-put-clause-armed : goal.returns-in-Ok-put-clause-armed
returns-in-Ok-put-clause-armed g c h =
    write_made (PutsObject c.args.kind c.args.name.now c.args.bytes.now) _ _ _ _ _ _ (g.S.Shelf.store c.args.shelf.now) _ (g.S.Shelf.store c.put.new.self) _ _ c.in-Ok.live (omega arith) (λ x. elim x [ ], λ x. elim x [ ]) (λ say x. elim x [ ]) (λ fault. absurd (cc)) (c.in-Ok.ensures.armed h) (c.in-Ok-put.ensures.armed (c.in-Ok.ensures.honest h)) (search rules)
