-- The first events, so many, happened.
use Rattle.std.proofs.Common.{take}
use Rattle.repo_world.specs.Events.{Run}
use Rattle.repo_world.specs.Rules.{AllAreRuled}
use Rattle.repo_world.specs.Stages.{IsSafely, LeadsOn, seen}
use Rattle.repo_world.proofs.worlds.World.run.Given as goal

abbrev pub invariant-loop-applied : goal.invariant-loop-applied
invariant-loop-applied g l = record {
  ran : Run (seen g.S.Shelf.store l.fn.self) (take l.applied l.events) (seen g.S.Shelf.store l.self);
  led : LeadsOn g.S.Shelf.store g.S.Shelf.failed l.fn.self (take l.applied l.events) l.self;
  safe : IsSafely (seen g.S.Shelf.store l.self);
  ruled : AllAreRuled (seen g.S.Shelf.store l.self);
}
