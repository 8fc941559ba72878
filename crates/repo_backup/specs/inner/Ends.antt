-- Some bytes that are pieces, one after another.
use Rattle.std.specs.Prelude.{◌≡◌, ◌≤◌, ◌∷◌, [], ℕ, List, length, drop}
use Rattle.repo_name.specs.Limits.{blob_limit}

-- the bytes are pieces of these lengths, one after another, and each may be a blob
abbrev pub AreEnded : List ℕ → List ℕ → Type 0
AreEnded bytes [] = bytes ≡ []
AreEnded bytes (n ∷ ns) = (1 ≤ n) × (n ≤ blob_limit) × (n ≤ length bytes) × AreEnded (drop n bytes) ns
