use Rattle.repo_check.proofs.Tellings.{told_are_found}
use Rattle.repo_check.proofs.telling.told_are_found.Goals as goal

pub returns : goal.returns
returns c = told_are_found
