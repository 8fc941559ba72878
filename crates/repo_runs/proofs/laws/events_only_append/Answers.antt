use Rattle.repo_runs.proofs.Appending.{events_only_append}
use Rattle.repo_runs.proofs.laws.events_only_append.Goals as goal

pub returns : goal.returns
returns c = events_only_append
