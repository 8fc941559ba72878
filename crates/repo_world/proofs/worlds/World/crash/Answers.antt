use Rattle.std.proofs.Common.{subst}
use Rattle.std.specs.Prelude.{⊤}
use Rattle.repo_world.specs.Events.{Stops}
use Rattle.repo_world.specs.Flows.{world_of}
use Rattle.repo_world.specs.Stages.{Stage, seen}
use Rattle.repo_world.specs.declared.events.Event.{Event}
use Rattle.repo_world.proofs.Standing.{reached_more}
use Rattle.repo_world.proofs.worlds.World.crash.Goals as goal

pub invariant_of-self : goal.invariant_of-self
invariant_of-self g c =
    let stands = c.self.invariant in
    let store = g.S.Shelf.store c.self.inside.shelf.inner.inner in
    record {
      honest = stands.honest;
      agrees = stands.agrees;
      disarmed = stands.disarmed;
      reached = reached_more ⊤ (world_of store c.self.inside.flow) (Event.Crash c.args.client) c.crash.result (world_of store c.crash.new.self) stands.reached (c.crash.ensures store);
    }

pub returns : goal.returns
returns g c =
    let S = g.row.S.Denot in
    let store = g.S.Shelf.store in
    let device = c.self.inside.shelf.inner.inner in
    subst (λ (stage : Stage S). Stops (seen store stage) c.args.client c.crash.result (world_of (store device) c.crash.new.self)) c.self.view_is (c.crash.ensures (store device))
