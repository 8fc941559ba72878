use Rattle.std.proofs.Common.{ℕ, List, ◌<◌, ◌*◌}
use Rattle.sha2.specs.Sha256.{IsRoundsAt}
use Rattle.repo_sha.specs.inner.Lanes.{lane, words_in}
use Rattle.repo_sha.specs.inner.Schedules.{Begins}
use Rattle.repo_sha.proofs.lane_rounds.all_steps.Given as goal

abbrev pub invariant-turns : goal.invariant-turns
invariant-turns l = (j : ℕ) → j < 8 → (block : List ℕ) → Begins j l.fn.window block
    → IsRoundsAt block (lane j l.fn.hashes) (words_in j l.window) (lane j l.v) (16 * l.turn)
