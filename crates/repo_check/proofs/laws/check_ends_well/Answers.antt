use Rattle.repo_check.proofs.LoneChecks.{check_ends}
use Rattle.repo_check.proofs.laws.check_ends_well.Goals as goal

pub returns : goal.returns
returns c = check_ends
