use Rattle.repo_store.proofs.Failing.{ticket_failed}
use Rattle.repo_store.proofs.lock_answers.answer_ticket.Goals as goal
use Rattle.repo_wire.specs.declared.messages.Say.{Say}
use Rattle.repo_store.proofs.Failing.{ticket_made}
use Rattle.repo_store.specs.Stores.{SavesTokens}
use Rattle.repo_store.proofs.Arming.{write_failed}
use Rattle.repo_store.proofs.Changes.{saves_can}
use Rattle.std.proofs.Common.{rules, arith}
use Rattle.repo_store.proofs.Arming.{looked_up, look_up_failed, write_made}

pub returns-clause-step : goal.returns-clause-step
returns-clause-step g c h =
    let r = c.in-Ok.ensures.law h in
    let w = c.in-Err-save_ledger.ensures.law (c.in-Ok.ensures.honest h) in
    rw c.refusal-in-Err-save_ledger.ensures
    (ticket_failed _ _ (g.S.Shelf.store c.save_ledger.new.self) c.in-Ok.ledger c.ticket.new.self c.in-Ok-ticket.token c.in-Err-save_ledger.error r.1 r.0 c.in-Ok-ticket.ensures w)

pub returns-clause-armed : goal.returns-clause-armed
returns-clause-armed g c h =
    let r = c.in-Ok.ensures.law h in
    write_failed (SavesTokens c.ticket.new.self) _ _ _ _ _ _ (g.S.Shelf.store c.args.shelf.now) _ (g.S.Shelf.store c.save_ledger.new.self) _ (Say.Token c.in-Ok-ticket.token) _ c.in-Ok.ledger c.in-Err-save_ledger.error c.refusal-in-Err-save_ledger.ensures r.1 tt (omega arith) (λ x. elim x [ ], λ x. elim x [ ]) (λ say x. elim x [ ])
    (ticket_made (g.S.Shelf.store c.args.shelf.now) c.in-Ok.ledger c.ticket.new.self r.0 c.in-Ok-ticket.token c.in-Ok-ticket.ensures) (saves_can (g.S.Shelf.store c.args.shelf.now) c.ticket.new.self) (c.in-Ok.ensures.armed h) (c.in-Err-save_ledger.ensures.armed (c.in-Ok.ensures.honest h)) (returns-clause-step g c h)

pub returns-in-Err-clause-armed : goal.returns-in-Err-clause-armed
returns-in-Err-clause-armed g c h =
    look_up_failed _ _ _ _ (g.S.Shelf.store c.args.shelf.now) _ _ (g.S.Shelf.store c.ledger.new.self) c.in-Err.error (search rules) (c.in-Err.ensures.armed h) (omega arith) tt (c.in-Err.ensures.law h) (λ x. elim x [ ])

pub returns-in-Err-Exhausted-clause-armed : goal.returns-in-Err-Exhausted-clause-armed
returns-in-Err-Exhausted-clause-armed g c h =
    looked_up _ _ _ _ (g.S.Shelf.store c.args.shelf.now) _ _ (g.S.Shelf.store c.ledger.new.self) c.in-Ok.ledger (c.in-Ok.ensures.armed h) (omega arith) (λ x. elim x [ ]) (λ w. w.1 tt) (λ fault. absurd (cc)) (search rules)

pub returns-in-Err-Memory-clause-armed : goal.returns-in-Err-Memory-clause-armed
returns-in-Err-Memory-clause-armed g c h =
    looked_up _ _ _ _ (g.S.Shelf.store c.args.shelf.now) _ _ (g.S.Shelf.store c.ledger.new.self) c.in-Ok.ledger (c.in-Ok.ensures.armed h) (omega arith) (λ x. elim x [ ]) (λ w. w.1 tt) (λ fault. absurd (cc)) (search rules)

pub returns-in-Ok-save_ledger-clause-armed : goal.returns-in-Ok-save_ledger-clause-armed
returns-in-Ok-save_ledger-clause-armed g c h =
    write_made (SavesTokens c.ticket.new.self) _ _ _ _ _ _ (g.S.Shelf.store c.args.shelf.now) _ (g.S.Shelf.store c.save_ledger.new.self) _ _ c.in-Ok.ledger (omega arith) (λ x. elim x [ ], λ x. elim x [ ]) (λ say x. elim x [ ]) (λ fault. absurd (cc)) (c.in-Ok.ensures.armed h) (c.in-Ok-save_ledger.ensures.armed (c.in-Ok.ensures.honest h)) (search rules)
