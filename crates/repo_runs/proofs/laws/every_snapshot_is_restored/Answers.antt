use Rattle.repo_runs.proofs.Resting as lemmas
use Rattle.repo_runs.proofs.laws.every_snapshot_is_restored.Goals as goal

pub returns : goal.returns
returns c = lemmas.every_snapshot_is_restored
