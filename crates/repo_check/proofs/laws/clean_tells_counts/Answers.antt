use Rattle.repo_check.proofs.Counting.{clean_tells_counts}
use Rattle.repo_check.proofs.laws.clean_tells_counts.Goals as goal

pub returns : goal.returns
returns c = clean_tells_counts
