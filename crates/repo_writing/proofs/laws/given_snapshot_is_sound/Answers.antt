use Rattle.repo_writing.proofs.Keeping.{given_sound}
use Rattle.repo_writing.proofs.laws.given_snapshot_is_sound.Goals as goal

pub returns : goal.returns
returns c = given_sound
