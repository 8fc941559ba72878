use Rattle.repo_pack.proofs.Packs.{packs_one}
use Rattle.repo_pack.proofs.laws.packs_are_one.Goals as goal

pub returns : goal.returns
returns c = packs_one
