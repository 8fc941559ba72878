use Rattle.repo_world.specs.Stages.{seen}
use Rattle.repo_play.proofs.Places.{there_by}
use Rattle.repo_play.proofs.moving.crash.Goals as goal

pub returns-clause-moves : goal.returns-clause-moves
returns-clause-moves g c = (there_by (seen g.S.Shelf.store c.args.world.now) c.args.client c.last_request.result c.if-is_none.ensures c.last_request.ensures, c.in_ok-pass.ensures)
