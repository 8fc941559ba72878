use Rattle.std.proofs.Common.{◌≡◌, ap, sym, subst}
use Rattle.std.specs.Prelude.{IfOk, OnErr}
use Rattle.std.proofs.lemmas.Result.{on_err_weaker}
use Rattle.repo_world.specs.Calmness.{IsCalm}
use Rattle.repo_world.specs.Clients.{Client, MayBeFed}
use Rattle.repo_world.specs.Flows.{world_of}
use Rattle.repo_world.specs.Stages.{Leads, Stage, seen}
use Rattle.repo_world.specs.declared.events.Event.{Event}
use Rattle.repo_world.proofs.Flowing.{client_there}
use Rattle.repo_world.proofs.Standing.{reached_by}
use Rattle.repo_world.proofs.worlds.World.feed.Goals as goal

pub invariant_of-self : goal.invariant_of-self
invariant_of-self g c =
    let S = g.row.S.Denot in
    let store = g.S.Shelf.store in
    let stands = c.self.invariant in
    let device = c.self.inside.shelf.inner.inner in
    let old : Stage S = record { device = device; flow = c.self.inside.flow } in
    let new : Stage S = record { device = device; flow = c.feed.new.self } in
    let same : OnErr c.feed.result (seen store new ≡ seen store old) = on_err_weaker c.feed.result (λ e. ap (world_of (store device)) e) c.feed.ensures.err in
    record {
      honest = stands.honest;
      agrees = stands.agrees;
      disarmed = stands.disarmed;
      reached = reached_by S store g.S.Shelf.failed c.feed.result old (Event.Feed c.args.client c.args.item) new stands.reached (c.feed.ensures.gives (store device)) same;
    }

pub returns-clause-happens : goal.returns-clause-happens
returns-clause-happens g c =
    let S = g.row.S.Denot in
    let store = g.S.Shelf.store in
    let device = c.self.inside.shelf.inner.inner in
    let new : Stage S = record { device = device; flow = c.feed.new.self } in
    subst (λ (stage : Stage S). IfOk c.feed.result (λ applied. Leads store g.S.Shelf.failed stage (Event.Feed c.args.client c.args.item) applied new)) c.self.view_is (c.feed.ensures.gives (store device))

pub returns-clause-calm : goal.returns-clause-calm
returns-clause-calm g c calm =
    let S = g.row.S.Denot in
    let store = g.S.Shelf.store in
    let calmly = subst (λ (stage : Stage S). IsCalm (seen store stage) (Event.Feed c.args.client c.args.item)) (sym c.self.view_is) calm in
    c.feed.ensures.calm (subst (λ (x : Client). ¬ MayBeFed x) (client_there c.self.inside.flow.seats c.args.client) calmly)
