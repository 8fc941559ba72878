use Rattle.repo_restore.proofs.Firsts as lemmas
use Rattle.repo_restore.proofs.laws.first_is_of_all.Goals as goal

pub returns : goal.returns
returns g c = lemmas.first_is_of_all g.B.BlobSet.has g.C.BlobSet.has
