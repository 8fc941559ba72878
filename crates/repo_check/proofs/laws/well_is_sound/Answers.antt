use Rattle.repo_check.proofs.Sounding.{well_is_sound}
use Rattle.repo_check.proofs.laws.well_is_sound.Goals as goal

pub returns : goal.returns
returns c = well_is_sound
