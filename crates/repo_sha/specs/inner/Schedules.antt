-- Schedules of eight blocks side by side.
use Rattle.std.specs.Prelude.{◌≡◌, ℕ, ◌<◌, List, length, map, slice_index}
use Rattle.std.specs.Borrow.{Bor}
use Rattle.sha2.specs.Sha256.{IsWindow, add32, round_constants, schedule}
use Rattle.repo_sha.specs.inner.Lanes.{lane_word, words_in}

-- what the references to blocks refer to
abbrev pub blocks_of : List (Bor (List ℕ)) → List (List ℕ)
blocks_of blocks = map (λ block. block.now) blocks

-- W of a block, all 64 words
abbrev pub schedule_of : List ℕ → List ℕ
schedule_of block = schedule block 48

-- the window has in lane j the first 16 words of the block's schedule
abbrev pub Begins : ℕ → List (List ℕ) → List ℕ → Type 0
Begins j window block = IsWindow (words_in j window) (schedule_of block) 16

-- lane j has at each t below a count the sum of K t and W t of the block
abbrev pub HasSums : ℕ → List (List ℕ) → List ℕ → ℕ → Type 0
HasSums j sums block count = (length sums ≡ 64) × ((t : ℕ) → t < count
    → lane_word sums t j ≡ add32 (slice_index round_constants t) (slice_index (schedule_of block) t))

-- lane j has the block's sums below t, and the window the 16 words before t
abbrev pub IsScheduledTo : ℕ → List (List ℕ) → List (List ℕ) → List ℕ → ℕ → Type 0
IsScheduledTo j window sums block t = IsWindow (words_in j window) (schedule_of block) t × HasSums j sums block t
