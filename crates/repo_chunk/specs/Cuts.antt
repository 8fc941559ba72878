-- The chunk rule, as relations over whole byte lists.
use Rattle.std.specs.Prelude.{◌≡◌, ◌≢◌, ℕ, zero, suc, ◌-◌, ◌%◌, ◌^◌, ◌<◌, ◌≤◌, ◌⊎◌, List, [], ◌∷◌, length, take, drop}
use Rattle.repo_chunk.specs.Parameters.{Parameters}
use Rattle.repo_chunk.specs.Rabin.{remainder}

-- the last bytes of a list, as many as are asked for
abbrev pub last : ℕ → List ℕ → List ℕ
last count bytes = drop (length bytes - count) bytes

-- the low bits of the remainder of the last 64 bytes are zero
abbrev pub IsMarked : Parameters → List ℕ → Type 0
IsMarked params bytes = remainder (last 64 bytes) % 2 ^ params.bits ≡ 0

-- a chunk at the front of the bytes may have this length
pub record EndsAt (params : Parameters) (bytes : List ℕ) (n : ℕ) : Type 0 where
  pub present : n ≤ length bytes
  pub least : params.min ≤ n
  pub greatest : n ≤ params.max
  pub reason : (n ≡ params.max) ⊎ IsMarked params (take n bytes)

-- the first chunk of the bytes ends after this many bytes
pub record IsCut (params : Parameters) (bytes : List ℕ) (n : ℕ) : Type 0 where
  pub ends : EndsAt params bytes n
  pub first : (k : ℕ) → k < n → ¬ EndsAt params bytes k

-- no chunk ends within the bytes
abbrev pub HasNoCut : Parameters → List ℕ → Type 0
HasNoCut params bytes = (n : ℕ) → ¬ EndsAt params bytes n

-- The lengths are those of the chunks of the bytes: none of no bytes, else the first cut and the cuts of the rest,
-- or the length of the bytes where they have no cut.
abbrev pub AreCuts : Parameters → List ℕ → List ℕ → Type 0
AreCuts params bytes [] = bytes ≡ []
AreCuts params bytes (n ∷ ns) = (IsCut params bytes n × AreCuts params (drop n bytes) ns)
    ⊎ (HasNoCut params bytes × (bytes ≢ []) × (n ≡ length bytes) × (ns ≡ []))

-- the first chunks of the bytes, and what is left of the bytes behind them
abbrev pub AreFirstCuts : Parameters → List ℕ → List ℕ → List ℕ → Type 0
AreFirstCuts params bytes [] rest = rest ≡ bytes
AreFirstCuts params bytes (n ∷ ns) rest = IsCut params bytes n × AreFirstCuts params (drop n bytes) ns rest

-- the chunk that is left unfinished, if it isn't empty
abbrev pub unfinished : ℕ → List ℕ
unfinished zero = []
unfinished (suc n) = suc n ∷ []
