use Rattle.std.proofs.Common.{refl}
use Rattle.repo_reach.proofs.Using.{then_added}
use Rattle.repo_reach.proofs.used.add_names.Goals as goal

pub loop-name-preserved : goal.loop-name-preserved
loop-name-preserved c = then_added c.loop-name.set c.insert.new.self _ c.in_ok-insert.ensures.updates.0 c.args.set.now c.args.names.now c.loop-name.name-index _ c.loop-name-test.true refl c.loop-name.invariant
