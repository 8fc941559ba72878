use Rattle.repo_index.proofs.ExactLemmas.{listed_exact}
use Rattle.repo_index.proofs.laws.listed_is_exact.Goals as goal

pub returns : goal.returns
returns c = listed_exact
