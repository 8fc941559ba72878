use Rattle.repo_store.proofs.Appending.{mode_stays}
use Rattle.repo_store.proofs.laws.mode_stays.Goals as goal

pub returns : goal.returns
returns c = mode_stays
