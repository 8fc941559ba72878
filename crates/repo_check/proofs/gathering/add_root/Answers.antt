use Rattle.repo_check.proofs.Gatherings.{root_added}
use Rattle.repo_check.proofs.gathering.add_root.Goals as goal

pub returns-in-Well : goal.returns-in-Well
returns-in-Well c = rw c.in-Well.is (root_added c.add.result c.args.visits.now c.add.new.self c.in-Well.root c.add.ensures.ok)
