use Rattle.repo_writing.proofs.Keeping.{listed_sound}
use Rattle.repo_writing.proofs.laws.listed_index_is_sound.Goals as goal

pub returns : goal.returns
returns c = listed_sound
