use Rattle.std.proofs.Common.{◌≡◌, ◌≢◌, true, false, Some, ap, refl, subst}
use Rattle.repo_wire.specs.declared.messages.Code.{Code}
use Rattle.repo_wire.specs.declared.messages.Say.{Say}
use Rattle.repo_session.specs.Clients.{IsReplyTo}
use Rattle.repo_store.specs.Failing.{HasFailed, IsLeft}
use Rattle.repo_store.specs.Kept.{Agrees}
use Rattle.repo_store.specs.declared.faults.Armed.{Armed}
use Rattle.repo_world.specs.Events.{MayAnybodySend}
use Rattle.repo_world.specs.Flows.{world_of}
use Rattle.repo_world.specs.inner.Seating.{StepsAsArmed}
use Rattle.repo_world.specs.Stages.{Stage, Tells, seen}
use Rattle.repo_world.proofs.Asking.{unchanged}
use Rattle.repo_world.proofs.Standing.{answer_reached, answers_plainly, nothing_left, over}
use Rattle.repo_world.proofs.worlds.World.answered.Goals as goal

pub invariant_of-self-2 : goal.invariant_of-self-2
invariant_of-self-2 g c =
    let store = g.S.Shelf.store in
    let failed = g.S.Shelf.failed in
    let shelf = c.self.inside.shelf in
    let after = c.answer-reply.new.shelf in
    let own = failed shelf.inner.inner in
    let owned = failed after.inner.inner in
    let left = after.inner.armed in
    let from = store shelf.inner.inner in
    let to = store after.inner.inner in
    let request = c.args.request.now in
    let reply = c.answer-reply.result in
    let stands = c.self.invariant in
    let honest : g.S.Shelf.honest shelf.inner.inner × Agrees shelf.known from = (stands.honest, stands.agrees) in
    let says = c.answer-reply.ensures in
    let replies = says.replies honest in
    let asked : StepsAsArmed shelf.inner.armed own left owned from request.ask reply.say to = (replies.step, says.armed honest) in
    let step : StepsAsArmed Armed.Nothing own left owned from request.ask reply.say to = subst (λ (armed : Armed). StepsAsArmed armed own left owned from request.ask reply.say to) stands.disarmed asked in
    let may : MayAnybodySend request = c.if-not-may_anybody_send.ensures.0 refl in
    let answers : IsReplyTo request reply = (replies.instance, replies.sequence) in
    let kept = says.honest honest in
    record {
      honest = kept.0;
      agrees = kept.1;
      disarmed = nothing_left own owned reply.say left (subst (λ (armed : Armed). IsLeft (HasFailed own owned) armed reply.say left) stands.disarmed asked.1.0);
      reached = answer_reached own owned left (world_of from c.self.inside.flow) request reply to may answers step stands.reached;
    }

pub returns-clause-told : goal.returns-clause-told
returns-clause-told g c =
    let S = g.row.S.Denot in
    let store = g.S.Shelf.store in
    let failed = g.S.Shelf.failed in
    let shelf = c.self.inside.shelf in
    let after = c.answer-reply.new.shelf in
    let own = failed shelf.inner.inner in
    let owned = failed after.inner.inner in
    let left = after.inner.armed in
    let from = store shelf.inner.inner in
    let to = store after.inner.inner in
    let request = c.args.request.now in
    let reply = c.answer-reply.result in
    let stands = c.self.invariant in
    let honest : g.S.Shelf.honest shelf.inner.inner × Agrees shelf.known from = (stands.honest, stands.agrees) in
    let says = c.answer-reply.ensures in
    let replies = says.replies honest in
    let asked : StepsAsArmed shelf.inner.armed own left owned from request.ask reply.say to = (replies.step, says.armed honest) in
    let step : StepsAsArmed Armed.Nothing own left owned from request.ask reply.say to = subst (λ (armed : Armed). StepsAsArmed armed own left owned from request.ask reply.say to) stands.disarmed asked in
    let may : MayAnybodySend request = c.if-not-may_anybody_send.ensures.0 refl in
    let answers : IsReplyTo request reply = (replies.instance, replies.sequence) in
    let new : Stage S = record { device = after.inner.inner; flow = c.self.inside.flow } in
    let other : reply.say ≢ Say.Refused Code.NoMemory = λ e. (let yes : c.wants_memory.result ≡ true = c.wants_memory.ensures.1 e in let no : c.wants_memory.result ≡ false = c.if-wants_memory.false in absurd (cc)) in
    subst (λ (stage : Stage S). Tells store failed stage request (Some reply) new) c.self.view_is (answers_plainly own owned left (world_of from c.self.inside.flow) request reply to may answers step other)

pub returns-then-wants_memory-clause-err : goal.returns-then-wants_memory-clause-err
returns-then-wants_memory-clause-err g c =
    let S = g.row.S.Denot in
    let store = g.S.Shelf.store in
    let shelf = c.self.inside.shelf in
    let after = c.answer-reply.new.shelf in
    let from = store shelf.inner.inner in
    let to = store after.inner.inner in
    let request = c.args.request.now in
    let say = c.answer-reply.result.say in
    let stands = c.self.invariant in
    let may : MayAnybodySend request = c.if-not-may_anybody_send.ensures.0 refl in
    let none : say ≡ Say.Refused Code.NoMemory = c.wants_memory.ensures.0 c.if-wants_memory.true in
    let same : to ≡ from = unchanged from request.ask say to may.1 none (c.answer-reply.ensures.replies (stands.honest, stands.agrees)).step in
    let new : Stage S = record { device = after.inner.inner; flow = c.self.inside.flow } in
    subst (λ (stage : Stage S). seen store new ≡ seen store stage) c.self.view_is (ap (over (world_of from c.self.inside.flow)) same)
