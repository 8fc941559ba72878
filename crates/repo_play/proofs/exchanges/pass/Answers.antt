use Rattle.repo_world.specs.Stages.{seen}
use Rattle.repo_play.proofs.Growing.{one_happens}
use Rattle.repo_play.proofs.exchanges.pass.Goals as goal

pub returns : goal.returns
returns g c = one_happens (seen g.S.Shelf.store c.args.world.now) c.args.event c.in_ok-happen.field-0 (seen g.S.Shelf.store c.happen.new.world) c.in_ok-happen.ensures
