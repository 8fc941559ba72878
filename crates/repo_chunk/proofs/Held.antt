-- What a chunker that holds bytes says of them.
use Rattle.std.proofs.Common.{ℕ, List}
use Rattle.repo_chunk.specs.Cuts.{HasNoCut}
use Rattle.repo_chunk.specs.Chunkers.{params_of, Holds}
use Rattle.repo_chunk.specs.declared.chunkers.Chunker.{Chunker}

-- held bytes have no cut
pub Holds-uncut : (chunker : Chunker) (bytes : List ℕ) → Holds chunker bytes → HasNoCut (params_of chunker) bytes
unfolding Holds params_of
Holds-uncut chunker bytes h = h.0
