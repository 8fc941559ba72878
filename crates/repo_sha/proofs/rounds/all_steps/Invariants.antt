use Rattle.std.proofs.Common.{◌≡◌, ℕ, ◌*◌, List}
use Rattle.sha2.specs.Sha256.{rounds}
use Rattle.repo_sha.specs.inner.Schedules.{HasSums, schedule_of}
use Rattle.repo_sha.proofs.rounds.all_steps.Given as goal

abbrev pub invariant-turns : goal.invariant-turns
invariant-turns l = (block : List ℕ) → HasSums l.lane l.sums block 64 → l.v ≡ rounds l.fn.hash (schedule_of block) (8 * l.turn)
