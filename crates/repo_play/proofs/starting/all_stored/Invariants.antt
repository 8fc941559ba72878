-- What the clients before those that are left reported.
use Rattle.std.proofs.Common.{drop}
use Rattle.repo_world.specs.Stages.{seen}
use Rattle.repo_play.proofs.Reported.{AreStoredSoFar}
use Rattle.repo_play.proofs.starting.all_stored.Given as goal

abbrev pub invariant-loop-client : goal.invariant-loop-client
invariant-loop-client g l = AreStoredSoFar (seen g.S.Shelf.store l.world) l.clients l.names.items (drop l.client-index l.clients)
