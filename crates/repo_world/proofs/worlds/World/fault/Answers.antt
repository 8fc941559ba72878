use Rattle.std.proofs.Common.{◌≡◌, sym, subst}
use Rattle.std.specs.Prelude.{IfOk, OnErr}
use Rattle.repo_store.specs.Kept.{Agrees}
use Rattle.repo_store.specs.declared.faults.Armed.{Armed}
use Rattle.repo_world.specs.Calmness.{IsCalm}
use Rattle.repo_world.specs.Stages.{Leads, Shelf, Stage, WorldStands, seen}
use Rattle.repo_world.specs.declared.events.Event.{Event}
use Rattle.repo_world.proofs.Standing.{Delivered, arms, failing_leads, reached_by, unhappened}
use Rattle.repo_world.proofs.worlds.World.fault.Goals as goal

pub invariant_of-self : goal.invariant_of-self
invariant_of-self g c =
    let S = g.row.S.Denot in
    let store = g.S.Shelf.store in
    let failed = g.S.Shelf.failed in
    let shelf = c.self.inside.shelf in
    let after = c.deliver-applied.new.shelf in
    let result = c.deliver-applied.result in
    let stands = c.self.invariant in
    let says = c.deliver-applied.ensures in
    let Honestly : Shelf S → Type 0 = λ s. g.S.Shelf.honest s.inner.inner × Agrees s.known (store s.inner.inner) in
    let old : Stage S = record { device = shelf.inner.inner; flow = c.self.inside.flow } in
    let new : Stage S = record { device = after.inner.inner; flow = c.deliver-applied.new.self } in
    let armed : Shelf S = arms S store failed (Armed.Next c.args.fail) shelf in
    let delivers = subst (λ (s : Shelf S). Honestly s → Delivered S store failed result s.inner.armed after.inner.armed (record { device = s.inner.inner; flow = c.self.inside.flow }) c.args.message new) c.arm.ensures says.delivers in
    let leads = failing_leads S store failed result c.args.fail after.inner.armed old c.args.message new (delivers (stands.honest, stands.agrees)) in
    let same = unhappened S store failed result armed after c.self.inside.flow c.deliver-applied.new.self says.err (subst (λ (s : Shelf S). OnErr result (after ≡ s)) c.arm.ensures says.unused) in
    let honest = subst (λ (s : Shelf S). Honestly s → Honestly after) c.arm.ensures says.honest (stands.honest, stands.agrees) in
    subst (λ (s : Shelf S). WorldStands g.S.Shelf.honest store s c.deliver-applied.new.self) (sym c.disarm.ensures) (record {
      honest = honest.0;
      agrees = honest.1;
      disarmed = λ i. Armed.Nothing;
      reached = reached_by S store failed result old (Event.Fault c.args.message c.args.fail) new stands.reached leads same;
    })

pub returns-clause-happens : goal.returns-clause-happens
returns-clause-happens g c =
    let S = g.row.S.Denot in
    let store = g.S.Shelf.store in
    let failed = g.S.Shelf.failed in
    let shelf = c.self.inside.shelf in
    let after = c.deliver-applied.new.shelf in
    let result = c.deliver-applied.result in
    let stands = c.self.invariant in
    let says = c.deliver-applied.ensures in
    let Honestly : Shelf S → Type 0 = λ s. g.S.Shelf.honest s.inner.inner × Agrees s.known (store s.inner.inner) in
    let old : Stage S = record { device = shelf.inner.inner; flow = c.self.inside.flow } in
    let new : Shelf S → Stage S = λ s. record { device = s.inner.inner; flow = c.deliver-applied.new.self } in
    let delivers = subst (λ (s : Shelf S). Honestly s → Delivered S store failed result s.inner.armed after.inner.armed (record { device = s.inner.inner; flow = c.self.inside.flow }) c.args.message (new after)) c.arm.ensures says.delivers in
    let leads = failing_leads S store failed result c.args.fail after.inner.armed old c.args.message (new after) (delivers (stands.honest, stands.agrees)) in
    subst (λ (s : Shelf S). IfOk result (λ applied. Leads store failed c.args.self.now (Event.Fault c.args.message c.args.fail) applied (new s))) (sym c.disarm.ensures)
    (subst (λ (stage : Stage S). IfOk result (λ applied. Leads store failed stage (Event.Fault c.args.message c.args.fail) applied (new after))) c.self.view_is leads)

pub returns-clause-err : goal.returns-clause-err
returns-clause-err g c =
    let S = g.row.S.Denot in
    let store = g.S.Shelf.store in
    let failed = g.S.Shelf.failed in
    let shelf = c.self.inside.shelf in
    let after = c.deliver-applied.new.shelf in
    let result = c.deliver-applied.result in
    let says = c.deliver-applied.ensures in
    let new : Shelf S → Stage S = λ s. record { device = s.inner.inner; flow = c.deliver-applied.new.self } in
    let armed : Shelf S = arms S store failed (Armed.Next c.args.fail) shelf in
    let same = unhappened S store failed result armed after c.self.inside.flow c.deliver-applied.new.self says.err (subst (λ (s : Shelf S). OnErr result (after ≡ s)) c.arm.ensures says.unused) in
    subst (λ (s : Shelf S). OnErr result (seen store (new s) ≡ seen store c.args.self.now)) (sym c.disarm.ensures)
    (subst (λ (stage : Stage S). OnErr result (seen store (new after) ≡ seen store stage)) c.self.view_is same)

pub returns-clause-calm : goal.returns-clause-calm
returns-clause-calm g c calm =
    let S = g.row.S.Denot in
    let store = g.S.Shelf.store in
    c.deliver-applied.ensures.calm (store c.self.inside.shelf.inner.inner) (subst (λ (stage : Stage S). IsCalm (seen store stage) (Event.Fault c.args.message c.args.fail)) (sym c.self.view_is) calm)
