use Rattle.repo_check.proofs.IndexFaults.{places_are_told}
use Rattle.repo_check.proofs.laws.places_are_told.Goals as goal

pub returns : goal.returns
returns c = places_are_told
