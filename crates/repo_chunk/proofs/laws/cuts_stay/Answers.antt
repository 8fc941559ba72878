use Rattle.repo_chunk.proofs.Cutting as lemmas
use Rattle.repo_chunk.proofs.laws.cuts_stay.Goals as goal

pub returns : goal.returns
returns c = lemmas.IsCut-append
