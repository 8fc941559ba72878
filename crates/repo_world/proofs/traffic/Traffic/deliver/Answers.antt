use Rattle.std.proofs.Common.{◌≡◌, ◌∙◌, IfOk, Option, Some, slice_get, sym, ap, subst}
use Rattle.std.specs.Option.{option_copied}
use Rattle.repo_world.specs.Calmness.{IsIgnored}
use Rattle.repo_world.specs.Clients.{Client}
use Rattle.repo_world.specs.Events.{Delivers}
use Rattle.repo_world.specs.Flows.{Flow, world_of}
use Rattle.repo_world.specs.inner.Seating.{StepsAsArmed}
use Rattle.repo_world.specs.World as world
use Rattle.repo_world.specs.declared.messages.Message.{Message}
use Rattle.repo_world.proofs.FlowParts.{got_copied, said_there_as}
use Rattle.repo_world.proofs.Flowing.{client_there}
use Rattle.repo_world.proofs.traffic.Traffic.deliver.Goals as goal
use Rattle.repo_world.proofs.traffic.Traffic.deliver.Given as given

-- the message of the number
got : (g : given.Over) (c : goal.After-take g) → slice_get c.args.self.now.messages c.args.number ≡ Some (Message.Said c.in-Some-Said.client c.in-Some-Said.reply)
got g c =
    let message : Message = Message.Said c.in-Some-Said.client c.in-Some-Said.reply in
    let copied : option_copied c.get.result ≡ Some message = sym c.copied.ensures ∙ c.in-Some-Said.is ∙ ap Some c.in-Some-Said.field-0-is in
    let lookup = c.get.ensures.lookup in
    subst (λ (f : Flow). slice_get f.messages c.args.number ≡ Some (Message.Said c.in-Some-Said.client c.in-Some-Said.reply)) c.self.view_is
    (ap (λ l. slice_get l c.args.number) (sym c.as_slice.ensures.value) ∙ got_copied _ _ c.as_slice.result.now c.args.number c.get.result message copied lookup.1 lookup.3)

pub returns-in-Some-Said-clause-delivers : goal.returns-in-Some-Said-clause-delivers
returns-in-Some-Said-clause-delivers g c = λ h.
    let flow = c.args.self.now in
    let k = c.in-Some-Said.client in
    let store = g.S.Shelf.store c.args.shelf.now in
    let armed = g.S.Shelf.armed c.args.shelf.now in
    let own = g.S.Shelf.own c.args.shelf.now in
    subst (λ (m : Option world.Message). IfOk c.take.result (λ applied. Delivers (StepsAsArmed armed own armed own) (world_of store flow) m applied (world_of store c.take.new.self)))
    (sym (said_there_as flow c.args.number k c.in-Some-Said.reply (got g c))) (c.take.ensures.arrives store)

pub returns-in-Some-Said-clause-calm : goal.returns-in-Some-Said-clause-calm
returns-in-Some-Said-clause-calm g c = λ store ignored.
    let flow = c.args.self.now in
    let k = c.in-Some-Said.client in
    let stopped = subst (IsIgnored (world_of store flow)) (said_there_as flow c.args.number k c.in-Some-Said.reply (got g c)) ignored in
    c.take.ensures.calm (ap (λ (x : Client). x.crashed) (sym (client_there flow.seats k)) ∙ stopped)
