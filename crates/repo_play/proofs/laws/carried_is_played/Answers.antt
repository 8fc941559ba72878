use Rattle.repo_play.proofs.Running.{carried_as_whole}
use Rattle.repo_play.proofs.laws.carried_is_played.Goals as goal

pub returns : goal.returns
returns c = carried_as_whole
