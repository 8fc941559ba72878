-- A message as the blocks of its padded form (5.1.1, 5.2.1), and how far it was taken in.
use Rattle.std.specs.Prelude.{◌≡◌, ℕ, ◌*◌, ◌/◌, List, length, take, drop}
use Rattle.sha2.specs.Sha256.{hash_after, initial_hash_256, padded_message}

-- how many blocks the padded message has
abbrev pub block_count : List ℕ → ℕ
block_count m = length (padded_message m) / 64

-- block i of the padded message
abbrev pub block_at : List ℕ → ℕ → List ℕ
block_at m i = take 64 (drop (i * 64) (padded_message m))

-- the hash value after the first n blocks of the padded message
abbrev pub hash_to : List ℕ → ℕ → List ℕ
hash_to m n = hash_after initial_hash_256 (padded_message m) n

-- what follows the blocks that a message fills by itself: one padded block, or two
abbrev pub ending : List ℕ → List ℕ
ending m = drop (length m / 64 * 64) (padded_message m)

-- these bytes begin with the ending of a message
abbrev pub HasEnding : List ℕ → List ℕ → Type 0
HasEnding m last = take (length (ending m)) last ≡ ending m
