use Rattle.repo_check.proofs.Counting.{clean_counts_reached}
use Rattle.repo_check.proofs.laws.clean_counts_reached.Goals as goal

pub returns : goal.returns
returns c = clean_counts_reached
