-- No request of the client is among the messages that were looked at.
use Rattle.repo_world.specs.Stages.{seen}
use Rattle.repo_play.proofs.Places.{NoneAfter}
use Rattle.repo_play.proofs.exchanges.last_request.Given as goal

abbrev pub invariant-loop-after : goal.invariant-loop-after
invariant-loop-after g l = NoneAfter (seen g.S.Shelf.store l.world).messages l.client l.after
