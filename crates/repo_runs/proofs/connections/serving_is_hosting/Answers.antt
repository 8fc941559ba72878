use Rattle.repo_runs.proofs.Hosting as lemmas
use Rattle.repo_runs.proofs.connections.serving_is_hosting.Goals as goal

pub returns : goal.returns
returns c = lemmas.serving_is_hosting
