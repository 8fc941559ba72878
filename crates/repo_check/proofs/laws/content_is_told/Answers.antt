use Rattle.repo_check.proofs.TreeFaults.{content_is_told}
use Rattle.repo_check.proofs.laws.content_is_told.Goals as goal

pub returns : goal.returns
returns c = content_is_told
