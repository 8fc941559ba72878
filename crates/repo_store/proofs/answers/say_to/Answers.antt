use Rattle.std.proofs.Common.{sym, subst}
use Rattle.repo_wire.specs.declared.messages.Ask.{Ask}
use Rattle.repo_store.specs.StoreMachine.{Step}
use Rattle.repo_store.proofs.answers.say_to.Goals as goal

pub returns-in-Refresh-clause-step : goal.returns-in-Refresh-clause-step
returns-in-Refresh-clause-step g c h =
    let P : Ask → Type 0 = λ ask. Step (g.S.Shelf.store c.args.shelf.now) ask c.answer_refresh.result (g.S.Shelf.store c.answer_refresh.new.shelf) in
    subst P (sym c.in-Refresh.is) (c.answer_refresh.ensures.step h)

pub returns-in-Unlock-clause-step : goal.returns-in-Unlock-clause-step
returns-in-Unlock-clause-step g c h =
    let P : Ask → Type 0 = λ ask. Step (g.S.Shelf.store c.args.shelf.now) ask c.answer_unlock.result (g.S.Shelf.store c.answer_unlock.new.shelf) in
    subst P (sym c.in-Unlock.is) (c.answer_unlock.ensures.step h)

pub returns-in-Upgrade-clause-step : goal.returns-in-Upgrade-clause-step
returns-in-Upgrade-clause-step g c h =
    let P : Ask → Type 0 = λ ask. Step (g.S.Shelf.store c.args.shelf.now) ask c.answer_upgrade.result (g.S.Shelf.store c.answer_upgrade.new.shelf) in
    subst P (sym c.in-Upgrade.is) (c.answer_upgrade.ensures.step h)

pub returns-in-Ticket-clause-step : goal.returns-in-Ticket-clause-step
returns-in-Ticket-clause-step g c h =
    let P : Ask → Type 0 = λ ask. Step (g.S.Shelf.store c.args.shelf.now) ask c.answer_ticket.result (g.S.Shelf.store c.answer_ticket.new.shelf) in
    subst P (sym c.in-Ticket.is) (c.answer_ticket.ensures.step h)

pub returns-in-Lock-clause-step : goal.returns-in-Lock-clause-step
returns-in-Lock-clause-step g c h =
    let P : Ask → Type 0 = λ ask. Step (g.S.Shelf.store c.args.shelf.now) ask c.answer_lock.result (g.S.Shelf.store c.answer_lock.new.shelf) in
    subst P (sym c.in-Lock.is) (c.answer_lock.ensures.step h)
