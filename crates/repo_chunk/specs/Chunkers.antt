-- What a contract sees of a chunker: its parameters, and the bytes that it holds of the unfinished chunk.
use Rattle.std.specs.Prelude.{◌≡◌, ℕ, List, ◌++◌, length, replicate}
use Rattle.repo_chunk.specs.Parameters.{Parameters}
use Rattle.repo_chunk.specs.Cuts.{last, HasNoCut}
use Rattle.repo_chunk.specs.declared.chunkers.Chunker.{Chunker}
use Rattle.repo_chunk.specs.declared.chunkers.Scan.{Scan}
use Rattle.repo_chunk.specs.declared.chunkers.Scan.TheVariants.{Cut, More}

-- the parameters of a chunker
unfoldable pub params_of : Chunker → Parameters
params_of chunker = chunker.params

-- the chunker holds these bytes of the unfinished chunk
unfoldable pub Holds : Chunker → List ℕ → Type 0
Holds chunker bytes = HasNoCut chunker.params bytes
    × (chunker.taken ≡ length bytes)
    × (chunker.window ≡ last 64 (replicate 64 0 ++ bytes))

-- a fact where the whole piece was taken
abbrev pub OnMore : Scan → Type 0 → Type 0
OnMore More fact = fact
OnMore (Cut n) fact = Unit {0}

-- a fact where a chunk ended, of how many bytes of the piece belong to it
abbrev pub IfCut : Scan → (ℕ → Type 0) → Type 0
IfCut More fact = Unit {0}
IfCut (Cut n) fact = fact n
