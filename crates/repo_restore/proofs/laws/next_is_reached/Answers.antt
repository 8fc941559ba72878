use Rattle.repo_restore.proofs.Nexts as lemmas
use Rattle.repo_restore.proofs.laws.next_is_reached.Goals as goal

pub returns : goal.returns
returns g c = lemmas.next_is_reached g.B.BlobSet.has
