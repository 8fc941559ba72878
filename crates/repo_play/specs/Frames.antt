-- Frames that are carried.
use Rattle.std.specs.Prelude.{◌≢◌, ◌⊎◌, ◌≤◌, ◌<◌, ℕ, List, length, take, Option}
use Rattle.std.specs.Io.KnownBytes.{Appends, Consumes}

-- these bytes were written to a writer, from this to that, and read from a reader, from this to that; they aren't more than 65,536
pub record IsCarried (bytes : List ℕ) (ahead left start contents : Option (List ℕ)) : Type 0 where
  pub few : length bytes ≤ 65536
  pub wrote : Appends start contents bytes
  pub read : Consumes ahead left bytes

-- bytes were read from a reader, from this to that, which aren't the first ones of these; they aren't more than these
pub record Differs (bytes : List ℕ) (ahead left : Option (List ℕ)) : Type 0 where
  pub came : List ℕ
  pub few : length came ≤ length bytes
  pub read : Consumes ahead left came
  pub other : came ≢ take (length came) bytes

-- a message isn't carried that fits no frame, or whose frame has more bytes than a connection surely takes before anybody reads
abbrev pub IsTooLarge : Type 0 → List ℕ → Type 0
IsTooLarge Fits bytes = ¬ Fits ⊎ (65536 < length bytes)
