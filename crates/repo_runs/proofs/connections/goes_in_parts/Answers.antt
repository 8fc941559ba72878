use Rattle.repo_runs.proofs.Owning as lemmas
use Rattle.repo_runs.proofs.connections.goes_in_parts.Goals as goal

pub returns : goal.returns
returns c = lemmas.goes_in_parts
