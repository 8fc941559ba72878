use Rattle.repo_play.proofs.Sound.{leads_soundly}
use Rattle.repo_play.proofs.exchanges.happen.Goals as goal

pub returns : goal.returns
returns g c = leads_soundly g.S.Shelf.store g.S.Shelf.failed c.args.world.now c.apply.new.self c.requires c.args.event c.apply.result c.apply.ensures.happens
