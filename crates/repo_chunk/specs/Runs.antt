-- A whole run: what a stream's pieces make, what was reported of it, and where it stands on the way.
use Rattle.std.specs.Prelude.{◌≡◌, ℕ, List, length}
use Rattle.std.specs.List.{flat_map, FoldsTo}
use Rattle.std.specs.Borrow.{Bor}
use Rattle.repo_chunk.specs.Parameters.{Parameters, AreLawful}
use Rattle.repo_chunk.specs.Cuts.{AreFirstCuts}
use Rattle.repo_chunk.specs.Chunkers.{params_of, Holds}
use Rattle.repo_chunk.specs.declared.chunkers.Chunker.{Chunker}

-- the stream that the pieces make
abbrev pub stream_of : List (Bor (List ℕ)) → List ℕ
stream_of pieces = flat_map (λ piece. piece.now) pieces

-- calls of a closure at these numbers, in this order, took it from one state to the other; step is one call
abbrev pub IsCalledAt : {F : Type 0} → (F → ℕ → Unit {0} → F → Type 0) → F → List ℕ → F → Type 0
IsCalledAt step start numbers last = FoldsTo (λ f n g. step f n tt g) start numbers last

-- the chunker holds an unfinished chunk of this length, and its parameters are lawful
pub record HoldsLength (chunker : Chunker) (n : ℕ) : Type 0 where
  pub rest : List ℕ
  pub held : Holds chunker rest
  pub count : n ≡ length rest
  pub lawful : AreLawful (params_of chunker)

-- of these bytes the first chunks are cut and their lengths reported, and the chunker holds the rest, of length n
pub record IsUnderWay {F : Type 0} (step : F → ℕ → Unit {0} → F → Type 0) (start : F) (params : Parameters)
    (bytes : List ℕ) (chunker : Chunker) (n : ℕ) (report : F) : Type 0 where
  pub lengths : List ℕ
  pub rest : List ℕ
  pub cuts : AreFirstCuts params bytes lengths rest
  pub calls : IsCalledAt step start lengths report
  pub same : params_of chunker ≡ params
  pub held : Holds chunker rest
  pub count : n ≡ length rest
