use Rattle.repo_name.proofs.RowLemmas.{hosts_one}
use Rattle.repo_name.proofs.fields.hosts_are_one.Goals as goal

pub returns : goal.returns
returns c = hosts_one
