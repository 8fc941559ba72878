use Rattle.repo_world.specs.Stages.{seen}
use Rattle.repo_play.proofs.Places.{there_by}
use Rattle.repo_play.proofs.feeding.feed.Goals as goal

pub returns-clause-fed : goal.returns-clause-fed
returns-clause-fed g c = record {
  client = there_by (seen g.S.Shelf.store c.args.world.now) c.args.client c.last_request.result c.if-is_none.ensures c.last_request.ensures;
  given = c.lent-item.result;
  is = c.lent-item.ensures;
  applied = c.in_ok-applied.applied;
  happens = c.in_ok-applied.ensures;
  told = c.in_ok-feed_line.ensures;
}
