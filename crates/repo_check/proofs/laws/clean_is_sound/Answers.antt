use Rattle.repo_check.proofs.Sounding.{well_is_sound}
use Rattle.repo_check.proofs.laws.clean_is_sound.Goals as goal

pub returns : goal.returns
returns c = λ es snapshots indexes packs blobs objects clean are apart. well_is_sound clean.answers objects clean.well are apart
