use Rattle.repo_runs.proofs.Connecting as lemmas
use Rattle.repo_runs.proofs.connections.connections_are_a_run.Goals as goal

pub returns : goal.returns
returns c = lemmas.connections_are_a_run
