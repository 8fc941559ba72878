use Rattle.repo_runs.proofs.Strangers as lemmas
use Rattle.repo_runs.proofs.bag_laws.strangers_tickets_are_theirs.Goals as goal

pub returns : goal.returns
returns c = lemmas.strangers_tickets
