use Rattle.repo_check.proofs.ObjectFaults.{packs_are_told}
use Rattle.repo_check.proofs.laws.packs_are_told.Goals as goal

pub returns : goal.returns
returns c = packs_are_told
