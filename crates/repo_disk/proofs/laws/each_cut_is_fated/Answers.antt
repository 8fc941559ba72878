use Rattle.repo_disk.proofs.CutLemmas.{each_cut}
use Rattle.repo_disk.proofs.laws.each_cut_is_fated.Goals as goal

pub returns : goal.returns
returns c = each_cut
