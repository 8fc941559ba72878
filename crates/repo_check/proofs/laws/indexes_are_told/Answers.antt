use Rattle.repo_check.proofs.IndexFaults.{indexes_are_told}
use Rattle.repo_check.proofs.laws.indexes_are_told.Goals as goal

pub returns : goal.returns
returns c = indexes_are_told
