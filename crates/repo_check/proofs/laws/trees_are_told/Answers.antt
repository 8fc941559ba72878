use Rattle.repo_check.proofs.TreeFaults.{trees_are_told}
use Rattle.repo_check.proofs.laws.trees_are_told.Goals as goal

pub returns : goal.returns
returns c = trees_are_told
