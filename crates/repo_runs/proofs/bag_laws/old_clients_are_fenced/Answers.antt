use Rattle.repo_runs.proofs.Requests as lemmas
use Rattle.repo_runs.proofs.bag_laws.old_clients_are_fenced.Goals as goal

pub returns : goal.returns
returns c = lemmas.old_fenced
