use Rattle.repo_pack.proofs.Offsets.{range_is}
use Rattle.repo_pack.proofs.laws.ranges_are_items.Goals as goal

pub returns : goal.returns
returns c = range_is
