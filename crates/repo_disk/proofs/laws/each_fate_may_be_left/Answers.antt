use Rattle.repo_disk.proofs.CutLemmas.{each_fate}
use Rattle.repo_disk.proofs.laws.each_fate_may_be_left.Goals as goal

pub returns : goal.returns
returns c = each_fate
