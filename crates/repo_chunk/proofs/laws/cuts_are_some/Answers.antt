use Rattle.repo_chunk.proofs.CutLaws as lemmas
use Rattle.repo_chunk.proofs.laws.cuts_are_some.Goals as goal

pub returns : goal.returns
returns c = lemmas.cuts_are_some
