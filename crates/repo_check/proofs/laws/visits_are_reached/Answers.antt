use Rattle.repo_check.proofs.Reached.{visits_are_reached}
use Rattle.repo_check.proofs.laws.visits_are_reached.Goals as goal

pub returns : goal.returns
returns c = visits_are_reached
