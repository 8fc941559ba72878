use Rattle.repo_prune.proofs.Picks.{one_inserted}
use Rattle.repo_prune.proofs.picking.set_of.Goals as goal

pub loop-name-preserved : goal.loop-name-preserved
loop-name-preserved c = one_inserted c.loop-name.set c.insert.new.self c.args.names.now c.loop-name.name-index _ c.loop-name-test.true c.in_ok-insert.ensures.updates.0 c.loop-name.invariant
