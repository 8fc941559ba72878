use Rattle.std.proofs.Common.{arith}
use Rattle.repo_index.proofs.OrderLemmas.{name_to_greatest, name_of_copies}
use Rattle.repo_index.proofs.bounds.greatest_name.Goals as goal

pub returns-clause-greatest : goal.returns-clause-greatest
returns-clause-greatest c = name_to_greatest

pub returns-clause-name : goal.returns-clause-name
returns-clause-name c = name_of_copies 255 (omega arith)
