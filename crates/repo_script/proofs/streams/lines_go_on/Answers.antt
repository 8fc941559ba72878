use Rattle.repo_script.proofs.CutLemmas.{goes_on}
use Rattle.repo_script.proofs.streams.lines_go_on.Goals as goal

pub returns : goal.returns
returns c = goes_on
