use Rattle.repo_runs.proofs.Outcomes as lemmas
use Rattle.repo_runs.proofs.bag_laws.every_snapshot_is_versioned.Goals as goal

pub returns : goal.returns
returns c = lemmas.every_snapshot_versioned
