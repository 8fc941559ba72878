use Rattle.repo_check.proofs.LoneChecks.{clean_is_of_sound}
use Rattle.repo_check.proofs.laws.clean_is_of_sound.Goals as goal

pub returns : goal.returns
returns c = clean_is_of_sound
