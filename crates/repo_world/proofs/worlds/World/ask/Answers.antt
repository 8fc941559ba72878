use Rattle.std.proofs.Common.{subst}
use Rattle.repo_world.specs.Flows.{world_of}
use Rattle.repo_world.specs.Stages.{IsSafely, Stage, seen}
use Rattle.repo_world.proofs.Standing.{safely}
use Rattle.repo_world.proofs.worlds.World.ask.Goals as goal

pub returns-clause-safe : goal.returns-clause-safe
returns-clause-safe g c =
    let store = g.S.Shelf.store in
    subst (λ (stage : Stage g.row.S.Denot). IsSafely (seen store stage)) c.self.view_is (safely (world_of (store c.self.inside.shelf.inner.inner) c.self.inside.flow) c.self.invariant.reached)
