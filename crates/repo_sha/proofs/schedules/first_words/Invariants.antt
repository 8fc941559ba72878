use Rattle.std.proofs.Common.{◌≡◌, ℕ, ◌<◌, ◌*◌, [], length, map, slice_index_or}
use Rattle.sha2.specs.Sha256.{word_at}
use Rattle.repo_sha.proofs.schedules.first_words.Given as goal

abbrev pub invariant-words : goal.invariant-words
invariant-words l = (length l.window ≡ 16)
    × ((k : ℕ) → k < l.t → slice_index_or l.window k [] ≡ map (λ block. word_at block.now (4 * k)) l.blocks)
