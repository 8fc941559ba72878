use Rattle.repo_check.proofs.Tellings.{told_ascend}
use Rattle.repo_check.proofs.telling.told_ascend.Goals as goal

pub returns : goal.returns
returns c = told_ascend
