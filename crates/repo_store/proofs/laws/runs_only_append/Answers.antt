use Rattle.repo_store.proofs.Appending.{runs_only_append}
use Rattle.repo_store.proofs.laws.runs_only_append.Goals as goal

pub returns : goal.returns
returns c = runs_only_append
