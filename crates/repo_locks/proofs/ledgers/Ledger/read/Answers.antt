use Rattle.std.proofs.Common.{◌∙◌, ◌≡◌, sym, subst, ap, Err}
use Rattle.std.specs.Prelude.{IsTrue}
use Rattle.repo_locks.specs.TokenMachine.{Tokens}
use Rattle.repo_locks.specs.Lawful.{IsLedger}
use Rattle.repo_locks.specs.LedgerBytes.{FitsBytes, HasBytes}
use Rattle.repo_locks.proofs.Texts.{states_one, lawful_fits, same_shape}
use Rattle.repo_locks.proofs.ledgers.Ledger.read.Goals as goal

pub returns-in_err-next-clause-shape : goal.returns-in_err-next-clause-shape
returns-in_err-next-clause-shape c is_shape l is h =
    c.in_err-next.ensures.shape (ap Err (same_shape c.from_residual.result c.in_err-next.field-0.0 is_shape c.from_residual.ensures.1)) l (lawful_fits l is, h)

pub returns-then-not-numbers_ascend-clause-shape : goal.returns-then-not-numbers_ascend-clause-shape
returns-then-not-numbers_ascend-clause-shape c is_shape l is h =
    let parts = c.in_ok-next.field-0 in
    let own : Tokens = record { next = parts.next; fresh = parts.fresh.items; live = parts.live.items } in
    let found : HasBytes own c.args.bytes.now = c.in_ok-next.ensures.found in
    let lawful = subst IsLedger (states_one l own (lawful_fits l is) found.0 (sym h ∙ found.1)) is in
    let told : IsTrue c.numbers_ascend.result = c.numbers_ascend.ensures.1 (rw c.deref.ensures.value lawful.fresh) in
    cc (told, c.if-not-numbers_ascend.true)

pub returns-then-not-is_lawful-clause-shape : goal.returns-then-not-is_lawful-clause-shape
returns-then-not-is_lawful-clause-shape c is_shape l is h =
    let parts = c.in_ok-next.field-0 in
    let own : Tokens = record { next = parts.next; fresh = parts.fresh.items; live = parts.live.items } in
    let found : HasBytes own c.args.bytes.now = c.in_ok-next.ensures.found in
    let lawful = subst IsLedger (states_one l own (lawful_fits l is) found.0 (sym h ∙ found.1)) is in
    let read : Tokens = record { next = parts.next; fresh = c.in_ok-fresh.fresh.keys; live = c.deref-3.result.now } in
    let keys = sym (c.in_ok-fresh.ensures ∙ c.deref-2.ensures.value) in
    let rows = sym c.deref-3.ensures.value in
    let same : own ≡ read = λ i. record { next = parts.next; fresh = keys i; live = rows i } in
    let is_read = subst IsLedger same lawful in
    let told : IsTrue c.is_lawful.result = (c.is_lawful.ensures (subst FitsBytes same found.0) is_read.fresh).1 is_read in
    cc (told, c.if-not-is_lawful.true)
