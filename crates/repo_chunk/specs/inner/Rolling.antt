-- Windows of 64 bytes along a list, and what a search for a marked one finds.
use Rattle.std.specs.Prelude.{◌≡◌, ℕ, ◌+◌, ◌%◌, ◌^◌, ◌<◌, ◌≤◌, List, length, take, drop}
use Rattle.repo_chunk.specs.Rabin.{remainder}
use Rattle.repo_chunk.specs.declared.rolling.Found.{Found}
use Rattle.repo_chunk.specs.declared.rolling.Found.TheVariants.{Mark, NoMark}

-- the 64 bytes of a list from a place on
abbrev pub window_at : List ℕ → ℕ → List ℕ
window_at bytes place = take 64 (drop place bytes)

-- the low bits of the remainder of the window at a place are zero
abbrev pub IsMarkedAt : ℕ → List ℕ → ℕ → Type 0
IsMarkedAt bits bytes place = remainder (window_at bytes place) % 2 ^ bits ≡ 0

-- no window before a place is marked, the one at the front aside
abbrev pub HasNoMarkBefore : ℕ → List ℕ → ℕ → Type 0
HasNoMarkBefore bits bytes place = (k : ℕ) → 1 ≤ k → k < place → ¬ IsMarkedAt bits bytes k

-- The remainder is that of the window at the front; the bytes that leave stand at the front, those that come behind it.
pub record IsRoll (bytes : List ℕ) (fingerprint : ℕ) (leaving entering : List ℕ) : Type 0 where
  pub first : fingerprint ≡ remainder (window_at bytes 0)
  pub leave : leaving ≡ take (length entering) bytes
  pub enter : entering ≡ take (length entering) (drop 64 bytes)

-- The first marked window, the one at the front aside, is at this place; or none is up to the last place that counts,
-- and this is the remainder of the window there.
abbrev pub IsFirstMark : ℕ → List ℕ → ℕ → Found → Type 0
IsFirstMark bits bytes count (Mark n) =
    (1 ≤ n) × (n ≤ count) × IsMarkedAt bits bytes n × HasNoMarkBefore bits bytes n
IsFirstMark bits bytes count (NoMark fingerprint) =
    HasNoMarkBefore bits bytes (count + 1) × (fingerprint ≡ remainder (window_at bytes count))
