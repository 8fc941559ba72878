use Rattle.repo_chunk.proofs.CutLaws as lemmas
use Rattle.repo_chunk.proofs.laws.uncut_is_short.Goals as goal

pub returns : goal.returns
returns c = lemmas.uncut_is_short
