use Rattle.repo_store.proofs.ServiceLemmas.{runs_compose}
use Rattle.repo_store.proofs.laws.runs_compose.Goals as goal

pub returns : goal.returns
returns c = runs_compose
