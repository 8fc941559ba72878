use Rattle.std.proofs.Common.{◌≡◌, subst}
use Rattle.std.specs.Prelude.{Result, IfOk, OnErr}
use Rattle.std.specs.declared.alloc.AllocError.{AllocError}
use Rattle.repo_world.specs.Flows.{world_of}
use Rattle.repo_world.specs.Stages.{IsSafely, Leads, Stage, seen}
use Rattle.repo_world.specs.declared.events.Applied.{Applied}
use Rattle.repo_world.specs.declared.events.Event.{Event}
use Rattle.repo_world.proofs.Standing.{carried, safely, seen_same}
use Rattle.repo_world.proofs.worlds.World.apply.Goals.{in-Start, in-Deliver, in-Fault, in-Ask, in-Feed, in-Crash, in-Restart}
use Rattle.repo_world.proofs.worlds.World.apply.Goals as goal

pub returns-clause-happens : goal.returns-clause-happens
returns-clause-happens g c =
    let S = g.row.S.Denot in
    let Comes : Stage S → Result Applied AllocError → Event → Type 0 = λ stage result event. IfOk result (λ applied. Leads g.S.Shelf.store g.S.Shelf.failed c.args.self.now event applied stage) in
    elim c.match-event.branch [
      | in-Start w ↦ carried Comes w.self-is w.applied-is w.in-Start.is w.start-applied.ensures.happens
      | in-Deliver w ↦ carried Comes w.self-is w.applied-is w.in-Deliver.is w.deliver-applied.ensures.happens
      | in-Fault w ↦ carried Comes w.self-is w.applied-is w.in-Fault.is w.fault-applied.ensures.happens
      | in-Ask w ↦ carried Comes w.self-is w.applied-is w.in-Ask.is w.sent-applied.ensures.happens
      | in-Feed w ↦ carried Comes w.self-is w.applied-is w.in-Feed.is w.feed-applied.ensures.happens
      | in-Crash w ↦ carried Comes w.self-is w.applied-is w.in-Crash.is w.crash.ensures
      | in-Restart w ↦ carried Comes w.self-is w.applied-is w.in-Restart.is w.restart.ensures
    ]

pub returns-clause-err : goal.returns-clause-err
returns-clause-err g c =
    let S = g.row.S.Denot in
    let store = g.S.Shelf.store in
    let old = c.args.self.now in
    let Same : Stage S → Result Applied AllocError → Event → Type 0 = λ stage result event. OnErr result (seen store stage ≡ seen store old) in
    elim c.match-event.branch [
      | in-Start w ↦ carried Same w.self-is w.applied-is w.in-Start.is (seen_same store w.start-applied.result old w.start-applied.new.self w.start-applied.ensures.err)
      | in-Deliver w ↦ carried Same w.self-is w.applied-is w.in-Deliver.is (seen_same store w.deliver-applied.result old w.deliver-applied.new.self w.deliver-applied.ensures.err)
      | in-Fault w ↦ carried Same w.self-is w.applied-is w.in-Fault.is w.fault-applied.ensures.err
      | in-Ask w ↦ carried Same w.self-is w.applied-is w.in-Ask.is w.sent-applied.ensures.err
      | in-Feed w ↦ carried Same w.self-is w.applied-is w.in-Feed.is (seen_same store w.feed-applied.result old w.feed-applied.new.self w.feed-applied.ensures.err)
      | in-Crash w ↦ carried Same w.self-is w.applied-is w.in-Crash.is tt
      | in-Restart w ↦ carried Same w.self-is w.applied-is w.in-Restart.is tt
    ]

pub returns-clause-safe : goal.returns-clause-safe
returns-clause-safe g c =
    let store = g.S.Shelf.store in
    subst (λ (stage : Stage g.row.S.Denot). IsSafely (seen store stage)) c.self.view_is (safely (world_of (store c.self.inside.shelf.inner.inner) c.self.inside.flow) c.self.invariant.reached)
