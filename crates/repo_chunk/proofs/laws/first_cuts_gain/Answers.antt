use Rattle.repo_chunk.proofs.FirstCuts as lemmas
use Rattle.repo_chunk.proofs.laws.first_cuts_gain.Goals as goal

pub returns : goal.returns
returns c = lemmas.first_cuts_gain
