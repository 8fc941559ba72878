use Rattle.repo_chunk.proofs.CutLaws as lemmas
use Rattle.repo_chunk.proofs.laws.cuts_lie_in_front.Goals as goal

pub returns : goal.returns
returns c = lemmas.cuts_lie_in_front
