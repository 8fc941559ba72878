use Rattle.std.proofs.Common.{Option, sym, subst}
use Rattle.std.specs.Prelude.{IfOk, Result}
use Rattle.std.specs.declared.alloc.AllocError.{AllocError}
use Rattle.repo_wire.specs.declared.messages.Reply.{Reply}
use Rattle.repo_world.specs.Stages.{Leads, Tells}
use Rattle.repo_world.specs.declared.events.Applied.{Applied}
use Rattle.repo_world.specs.declared.events.Event.{Event}
use Rattle.repo_world.proofs.Standing.{told_done, told_ignored}
use Rattle.repo_world.proofs.worlds.World.sent_lent.Goals.{in-Some, in-None}
use Rattle.repo_world.proofs.worlds.World.sent_lent.Goals as goal

pub returns-clause-happens : goal.returns-clause-happens
returns-clause-happens g c =
    let store = g.S.Shelf.store in
    let failed = g.S.Shelf.failed in
    let old = c.args.self.now in
    let new = c.answered.new.self in
    let request = c.args.request.now in
    let Comes : Result Applied AllocError → Type 0 = λ result. IfOk result (λ applied. Leads store failed old (Event.Ask request) applied new) in
    let Told : Option Reply → Type 0 = λ found. Tells store failed old request found new in
    elim c.match-branch-2.branch [
      | in-Some w ↦ subst Comes (sym w.result-is) (told_done store failed old request new (subst Told w.in-Some.is c.in_ok-answered.ensures.told))
      | in-None w ↦ subst Comes (sym w.result-is) (told_ignored store failed old request new (subst Told w.in-None.is c.in_ok-answered.ensures.told))
    ]
