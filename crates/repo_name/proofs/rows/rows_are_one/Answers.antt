use Rattle.repo_name.proofs.RowLemmas.{rows_one}
use Rattle.repo_name.proofs.rows.rows_are_one.Goals as goal

pub returns : goal.returns
returns c = rows_one
