use Rattle.std.proofs.Common.{◌≡◌, List, rules, sym, subst}
use Rattle.repo_name.specs.declared.rows.LockRow.{LockRow}
use Rattle.repo_wire.specs.Messages.{IsSay}
use Rattle.repo_wire.specs.declared.messages.Say.{Say}
use Rattle.repo_store.proofs.lock_answers.answer_locks.Goals as goal
use Rattle.std.proofs.Common.{arith}
use Rattle.repo_store.proofs.Arming.{looked_up, look_up_failed}

pub returns-in-Ok-locks-clause-within : goal.returns-in-Ok-locks-clause-within
returns-in-Ok-locks-clause-within g c =
    let same : c.in-Ok-locks.rows ≡ c.in-Ok.ledger.live = search rules in
    let P : List LockRow → Type 0 = λ rows. IsSay (Say.LockList rows) in
    let lawful = c.locks.ensures.lawful in
    (subst P (sym same) (lawful.few_live, lawful.rows), tt)

pub returns-in-Err-clause-armed : goal.returns-in-Err-clause-armed
returns-in-Err-clause-armed g c h =
    look_up_failed _ _ _ _ (g.S.Shelf.store c.args.shelf.now) _ _ (g.S.Shelf.store c.ledger.new.self) c.in-Err.error (search rules) (c.in-Err.ensures.armed h) (omega arith) tt (c.in-Err.ensures.law h) (λ x. elim x [ ])

pub returns-in-Ok-locks-clause-armed : goal.returns-in-Ok-locks-clause-armed
returns-in-Ok-locks-clause-armed g c h =
    looked_up _ _ _ _ (g.S.Shelf.store c.args.shelf.now) _ _ (g.S.Shelf.store c.ledger.new.self) c.in-Ok.ledger (c.in-Ok.ensures.armed h) (omega arith) (λ x. elim x [ ]) (λ w. w.0 tt) (λ fault. absurd (cc)) (search rules)

pub returns-clause-armed : goal.returns-clause-armed
returns-clause-armed g c h =
    looked_up _ _ _ _ (g.S.Shelf.store c.args.shelf.now) _ _ (g.S.Shelf.store c.ledger.new.self) c.in-Ok.ledger (c.in-Ok.ensures.armed h) (omega arith) (λ x. elim x [ ]) (λ w. w.0 tt) (λ fault. absurd (cc)) (search rules)
