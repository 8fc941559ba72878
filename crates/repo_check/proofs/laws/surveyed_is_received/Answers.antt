use Rattle.repo_check.proofs.Reached.{surveyed_is_received}
use Rattle.repo_check.proofs.laws.surveyed_is_received.Goals as goal

pub returns : goal.returns
returns c = surveyed_is_received
