-- What a chunker holds is a fact.
use Rattle.std.proofs.Common.{List, ℕ}
use Rattle.std.proofs.Props.{props}
use Rattle.repo_chunk.specs.Chunkers.{Holds}
use Rattle.repo_chunk.specs.declared.chunkers.Chunker.{Chunker}

pub holds_prop : (chunker : Chunker) (bytes : List ℕ) → IsProp (Holds chunker bytes)
unfolding Holds
holds_prop chunker bytes = hlevel props
