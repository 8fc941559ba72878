use Rattle.repo_index.proofs.SameLemmas.{exact_same}
use Rattle.repo_index.proofs.laws.exact_is_same.Goals as goal

pub returns : goal.returns
returns c = exact_same
