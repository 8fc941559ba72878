use Rattle.std.proofs.Common.{◌≡◌, ℕ, ◌<◌, [], length, map, slice_index, slice_index_or}
use Rattle.repo_sha.proofs.lane_rounds.side_by_side.Given as goal

abbrev pub invariant-words : goal.invariant-words
invariant-words l = (length l.words ≡ 8) × ((i : ℕ) → i < l.k → slice_index_or l.words i [] ≡ map (λ hash. slice_index hash i) l.hashes)
