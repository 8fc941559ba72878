use Rattle.repo_store.proofs.AllNames.{joins_on}
use Rattle.repo_store.proofs.pages.join.Goals as goal

pub loop-name-preserved : goal.loop-name-preserved
loop-name-preserved c = joins_on c.args.page.now c.loop-name.name-index _ c.args.names.now _ _ c.loop-name-test.true c.loop-name.invariant c.in_ok-insert_named.ensures.ok
