use Rattle.repo_runs.proofs.Requests as lemmas
use Rattle.repo_runs.proofs.bag_laws.put_keeps_bag.Goals as goal

pub returns : goal.returns
returns c = lemmas.put_keeps
