use Rattle.repo_check.proofs.LoneChecks.{check_changes_nothing}
use Rattle.repo_check.proofs.laws.check_changes_nothing.Goals as goal

pub returns : goal.returns
returns c = check_changes_nothing
