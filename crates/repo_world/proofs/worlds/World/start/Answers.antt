use Rattle.std.proofs.Common.{◌≡◌, ap, subst}
use Rattle.std.specs.Prelude.{IfOk, OnErr}
use Rattle.std.proofs.lemmas.Result.{on_err_weaker}
use Rattle.repo_world.specs.Flows.{world_of}
use Rattle.repo_world.specs.Stages.{Leads, Stage, seen}
use Rattle.repo_world.specs.declared.events.Event.{Event}
use Rattle.repo_world.proofs.Standing.{reached_by}
use Rattle.repo_world.proofs.worlds.World.start.Goals as goal

pub invariant_of-self : goal.invariant_of-self
invariant_of-self g c =
    let S = g.row.S.Denot in
    let store = g.S.Shelf.store in
    let stands = c.self.invariant in
    let device = c.self.inside.shelf.inner.inner in
    let old : Stage S = record { device = device; flow = c.self.inside.flow } in
    let new : Stage S = record { device = device; flow = c.start.new.self } in
    let same : OnErr c.start.result (seen store new ≡ seen store old) = on_err_weaker c.start.result (λ e. ap (world_of (store device)) e) c.start.ensures.err in
    record {
      honest = stands.honest;
      agrees = stands.agrees;
      disarmed = stands.disarmed;
      reached = reached_by S store g.S.Shelf.failed c.start.result old (Event.Start c.args.job c.args.host.now c.args.time c.args.old) new stands.reached (c.start.ensures.begins (store device)) same;
    }

pub returns-clause-happens : goal.returns-clause-happens
returns-clause-happens g c =
    let S = g.row.S.Denot in
    let store = g.S.Shelf.store in
    let device = c.self.inside.shelf.inner.inner in
    let new : Stage S = record { device = device; flow = c.start.new.self } in
    subst (λ (stage : Stage S). IfOk c.start.result (λ applied. Leads store g.S.Shelf.failed stage (Event.Start c.args.job c.args.host.now c.args.time c.args.old) applied new)) c.self.view_is (c.start.ensures.begins (store device))
