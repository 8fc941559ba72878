use Rattle.repo_check.proofs.Tellings.{ranks_ascend}
use Rattle.repo_check.proofs.telling.ranks_ascend.Goals as goal

pub returns : goal.returns
returns c = ranks_ascend
