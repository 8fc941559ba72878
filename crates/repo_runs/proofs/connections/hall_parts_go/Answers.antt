use Rattle.repo_runs.proofs.Owning as lemmas
use Rattle.repo_runs.proofs.connections.hall_parts_go.Goals as goal

pub returns : goal.returns
returns c = lemmas.hall_parts_go
