use Rattle.repo_index.proofs.ExactLemmas.{each_listed_exact}
use Rattle.repo_index.proofs.laws.each_listed_is_exact.Goals as goal

pub returns : goal.returns
returns c = each_listed_exact
