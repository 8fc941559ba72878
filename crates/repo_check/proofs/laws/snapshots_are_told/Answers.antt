use Rattle.repo_check.proofs.ObjectFaults.{snapshots_are_told}
use Rattle.repo_check.proofs.laws.snapshots_are_told.Goals as goal

pub returns : goal.returns
returns c = snapshots_are_told
