use Rattle.repo_check.proofs.Finding.{well_has_no_fault}
use Rattle.repo_check.proofs.laws.well_has_no_fault.Goals as goal

pub returns : goal.returns
returns c = well_has_no_fault
