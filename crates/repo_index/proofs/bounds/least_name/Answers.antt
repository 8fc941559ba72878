use Rattle.repo_index.proofs.OrderLemmas.{name_from_zeros}
use Rattle.repo_index.proofs.bounds.least_name.Goals as goal

pub returns : goal.returns
returns c = name_from_zeros
