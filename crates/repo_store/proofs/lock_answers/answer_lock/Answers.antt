use Rattle.std.proofs.Common.{List, ℕ, subst, Ok}
use Rattle.repo_locks.specs.declared.outcomes.Grant.{Grant}
use Rattle.repo_locks.specs.TokenMachine.{LockStep}
use Rattle.repo_store.proofs.Failing.{lock_failed, lock_made, newly_locked}
use Rattle.repo_wire.specs.declared.messages.Say.{Say}
use Rattle.repo_store.specs.Stores.{SavesTokens}
use Rattle.repo_store.proofs.Arming.{write_failed}
use Rattle.repo_store.proofs.Changes.{saves_can}
use Rattle.repo_store.proofs.lock_answers.answer_lock.Goals as goal
use Rattle.std.proofs.Common.{rules, arith}
use Rattle.repo_store.proofs.Arming.{looked_up, look_up_failed, ungranted, write_made}

pub returns-clause-step : goal.returns-clause-step
returns-clause-step g c h =
    let row = c.args.row.now in
    let r = c.in-Ok.ensures.law h in
    let w = c.in-Err-save_ledger.ensures.law (c.in-Ok.ensures.honest h) in
    let P : List ℕ → Type 0 = λ host. LockStep c.in-Ok.ledger row.token row.exclusive row.time host (Ok Grant.New) c.lock.new.self in
    let Q : Grant → Type 0 = λ grant. LockStep c.in-Ok.ledger row.token row.exclusive row.time c.as_str.result.now (Ok grant) c.lock.new.self in
    let granted = subst Q c.in-Ok-New.field-0-is c.in-Ok-New.ensures in
    rw c.refusal-in-Err-save_ledger.ensures
    (lock_failed _ _ (g.S.Shelf.store c.save_ledger.new.self) c.in-Ok.ledger c.lock.new.self row c.in-Err-save_ledger.error r.1 r.0 (subst P c.as_str.ensures.text granted) w)

pub returns-clause-armed : goal.returns-clause-armed
returns-clause-armed g c h =
    let row = c.args.row.now in
    let r = c.in-Ok.ensures.law h in
    let P : List ℕ → Type 0 = λ host. LockStep c.in-Ok.ledger row.token row.exclusive row.time host (Ok Grant.New) c.lock.new.self in
    let Q : Grant → Type 0 = λ grant. LockStep c.in-Ok.ledger row.token row.exclusive row.time c.as_str.result.now (Ok grant) c.lock.new.self in
    let granted = subst P c.as_str.ensures.text (subst Q c.in-Ok-New.field-0-is c.in-Ok-New.ensures) in
    write_failed (SavesTokens c.lock.new.self) _ _ _ _ _ _ (g.S.Shelf.store c.args.shelf.now) _ (g.S.Shelf.store c.save_ledger.new.self) _ Say.Done _ c.in-Ok.ledger c.in-Err-save_ledger.error c.refusal-in-Err-save_ledger.ensures r.1 tt (omega arith) (newly_locked (g.S.Shelf.store c.args.shelf.now) c.in-Ok.ledger c.lock.new.self r.0 row granted, λ x. elim x [ ]) (λ say x. elim x [ ])
    (lock_made (g.S.Shelf.store c.args.shelf.now) c.in-Ok.ledger c.lock.new.self r.0 row granted) (saves_can (g.S.Shelf.store c.args.shelf.now) c.lock.new.self) (c.in-Ok.ensures.armed h) (c.in-Err-save_ledger.ensures.armed (c.in-Ok.ensures.honest h)) (returns-clause-step g c h)

pub returns-in-Err-clause-armed : goal.returns-in-Err-clause-armed
returns-in-Err-clause-armed g c h =
    look_up_failed _ _ _ _ (g.S.Shelf.store c.args.shelf.now) _ _ (g.S.Shelf.store c.ledger.new.self) c.in-Err.error (search rules) (c.in-Err.ensures.armed h) (omega arith) tt (c.in-Err.ensures.law h) (λ x. elim x [ ])

pub returns-in-Ok-Held-clause-armed : goal.returns-in-Ok-Held-clause-armed
returns-in-Ok-Held-clause-armed g c h =
    looked_up _ _ _ _ (g.S.Shelf.store c.args.shelf.now) _ _ (g.S.Shelf.store c.ledger.new.self) c.in-Ok.ledger (c.in-Ok.ensures.armed h) (omega arith) (λ x. elim x [ ]) (λ w. w.0 (search rules)) (λ fault. absurd (cc)) (search rules)

pub returns-in-Err-lock-clause-armed : goal.returns-in-Err-lock-clause-armed
returns-in-Err-lock-clause-armed g c h =
    ungranted _ _ _ _ (g.S.Shelf.store c.args.shelf.now) c.args.row.now _ (g.S.Shelf.store c.ledger.new.self) c.in-Ok.ledger c.in-Err-lock.error (search rules) (c.in-Ok.ensures.armed h) (search rules)

pub returns-in-Ok-save_ledger-clause-armed : goal.returns-in-Ok-save_ledger-clause-armed
returns-in-Ok-save_ledger-clause-armed g c h =
    let row = c.args.row.now in
    let P : List ℕ → Type 0 = λ host. LockStep c.in-Ok.ledger row.token row.exclusive row.time host (Ok Grant.New) c.lock.new.self in
    let Q : Grant → Type 0 = λ grant. LockStep c.in-Ok.ledger row.token row.exclusive row.time c.as_str.result.now (Ok grant) c.lock.new.self in
    let granted = subst P c.as_str.ensures.text (subst Q c.in-Ok-New.field-0-is c.in-Ok-New.ensures) in
    write_made (SavesTokens c.lock.new.self) _ _ _ _ _ _ (g.S.Shelf.store c.args.shelf.now) _ (g.S.Shelf.store c.save_ledger.new.self) _ _ c.in-Ok.ledger (omega arith) (newly_locked (g.S.Shelf.store c.args.shelf.now) c.in-Ok.ledger c.lock.new.self (c.in-Ok.ensures.law h).0 row granted, λ x. elim x [ ]) (λ say x. elim x [ ]) (λ fault. absurd (cc)) (c.in-Ok.ensures.armed h) (c.in-Ok-save_ledger.ensures.armed (c.in-Ok.ensures.honest h)) (search rules)
