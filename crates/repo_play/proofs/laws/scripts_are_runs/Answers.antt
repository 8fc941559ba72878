use Rattle.repo_play.proofs.Running.{played_reaches}
use Rattle.repo_play.proofs.laws.scripts_are_runs.Goals as goal

pub returns : goal.returns
returns c = played_reaches
