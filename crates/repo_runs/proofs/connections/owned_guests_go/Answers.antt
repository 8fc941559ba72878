use Rattle.repo_runs.proofs.Owning as lemmas
use Rattle.repo_runs.proofs.connections.owned_guests_go.Goals as goal

pub returns : goal.returns
returns c = lemmas.owned_guests_go
