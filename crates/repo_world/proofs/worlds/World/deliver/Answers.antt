use Rattle.std.proofs.Common.{sym, subst}
use Rattle.std.specs.Prelude.{IfOk}
use Rattle.repo_world.specs.Calmness.{IsCalm}
use Rattle.repo_world.specs.Stages.{Leads, Stage, seen}
use Rattle.repo_world.specs.declared.events.Event.{Event}
use Rattle.repo_world.proofs.Standing.{plainly_leads, reached_by, unhappened}
use Rattle.repo_world.proofs.worlds.World.deliver.Goals as goal

pub invariant_of-self : goal.invariant_of-self
invariant_of-self g c =
    let S = g.row.S.Denot in
    let store = g.S.Shelf.store in
    let failed = g.S.Shelf.failed in
    let shelf = c.self.inside.shelf in
    let after = c.deliver.new.shelf in
    let stands = c.self.invariant in
    let says = c.deliver.ensures in
    let old : Stage S = record { device = shelf.inner.inner; flow = c.self.inside.flow } in
    let new : Stage S = record { device = after.inner.inner; flow = c.deliver.new.self } in
    let leads = plainly_leads S store failed c.deliver.result shelf.inner.armed after.inner.armed old c.args.message new stands.disarmed (says.delivers (stands.honest, stands.agrees)) in
    let same = unhappened S store failed c.deliver.result shelf after c.self.inside.flow c.deliver.new.self says.err says.unused in
    let honest = says.honest (stands.honest, stands.agrees) in
    record {
      honest = honest.0;
      agrees = honest.1;
      disarmed = says.disarmed (stands.honest, stands.agrees) stands.disarmed;
      reached = reached_by S store failed c.deliver.result old (Event.Deliver c.args.message) new stands.reached leads same;
    }

pub returns-clause-happens : goal.returns-clause-happens
returns-clause-happens g c =
    let S = g.row.S.Denot in
    let store = g.S.Shelf.store in
    let failed = g.S.Shelf.failed in
    let shelf = c.self.inside.shelf in
    let after = c.deliver.new.shelf in
    let stands = c.self.invariant in
    let says = c.deliver.ensures in
    let old : Stage S = record { device = shelf.inner.inner; flow = c.self.inside.flow } in
    let new : Stage S = record { device = after.inner.inner; flow = c.deliver.new.self } in
    subst (λ (stage : Stage S). IfOk c.deliver.result (λ applied. Leads store failed stage (Event.Deliver c.args.message) applied new)) c.self.view_is
    (plainly_leads S store failed c.deliver.result shelf.inner.armed after.inner.armed old c.args.message new stands.disarmed (says.delivers (stands.honest, stands.agrees)))

pub returns-clause-calm : goal.returns-clause-calm
returns-clause-calm g c calm =
    let S = g.row.S.Denot in
    let store = g.S.Shelf.store in
    c.deliver.ensures.calm (store c.self.inside.shelf.inner.inner) (subst (λ (stage : Stage S). IsCalm (seen store stage) (Event.Deliver c.args.message)) (sym c.self.view_is) calm)
