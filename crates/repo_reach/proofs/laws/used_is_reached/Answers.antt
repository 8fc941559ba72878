use Rattle.repo_reach.proofs.Reaching.{used_is_reached}
use Rattle.repo_reach.proofs.laws.used_is_reached.Goals as goal

pub returns : goal.returns
returns c = used_is_reached
