-- The requests among the messages that were looked at were delivered, and messages only became more.
use Rattle.repo_world.specs.Stages.{seen}
use Rattle.repo_play.proofs.Replaying.{IsReplayed}
use Rattle.repo_play.proofs.later.replay.Given as goal

abbrev pub invariant-loop-place : goal.invariant-loop-place
invariant-loop-place g l = IsReplayed (seen g.S.Shelf.store l.fn.world) l.place (seen g.S.Shelf.store l.world)
