use Rattle.repo_check.proofs.Finding.{found_once}
use Rattle.repo_check.proofs.laws.found_once.Goals as goal

pub returns : goal.returns
returns c = found_once
