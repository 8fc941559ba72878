use Rattle.std.proofs.Common.{ap}
use Rattle.repo_world.specs.World.{World}
use Rattle.repo_world.proofs.ItemTaking.{feeds_keeps}
use Rattle.repo_runs.proofs.bag_laws.feeds_keep_bag.Goals as goal

pub returns : goal.returns
returns c = λ w v k item bag f. (feeds_keeps w k item v f bag, ap (λ (u : World). u.store) f.is)
