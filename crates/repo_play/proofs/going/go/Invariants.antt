-- The client is there, and so many steps were made.
use Rattle.repo_world.specs.Stages.{seen}
use Rattle.repo_play.specs.Steps.{HasClient, StepsClientOn}
use Rattle.repo_play.proofs.going.go.Given as goal

abbrev pub invariant-loop-made : goal.invariant-loop-made
invariant-loop-made g l = record {
  first : HasClient (seen g.S.Shelf.store l.fn.world) l.client;
  there : HasClient (seen g.S.Shelf.store l.world) l.client;
  steps : StepsClientOn l.sort l.made (seen g.S.Shelf.store l.fn.world) l.client (seen g.S.Shelf.store l.world);
}
