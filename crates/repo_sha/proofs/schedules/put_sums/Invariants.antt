use Rattle.std.proofs.Common.{ℕ, ◌<◌, ◌*◌, [], slice_index_or}
use Rattle.repo_sha.specs.inner.Schedules.{IsScheduledTo, blocks_of}
use Rattle.repo_sha.proofs.schedules.put_sums.Given as goal

abbrev pub invariant-turns : goal.invariant-turns
invariant-turns l = (j : ℕ) → j < 8 → IsScheduledTo j l.window l.sums (slice_index_or (blocks_of l.blocks) j []) (16 * l.turn)
