use Rattle.repo_store.proofs.ServiceLemmas.{serving_runs}
use Rattle.repo_store.proofs.laws.serving_runs.Goals as goal

pub returns : goal.returns
returns c = serving_runs
