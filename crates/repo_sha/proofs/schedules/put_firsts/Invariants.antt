use Rattle.std.proofs.Common.{◌≡◌, ℕ, ◌<◌, List, length}
use Rattle.repo_sha.specs.inner.Schedules.{Begins, HasSums}
use Rattle.repo_sha.proofs.schedules.put_firsts.Given as goal

abbrev pub invariant-firsts : goal.invariant-firsts
invariant-firsts l = (length l.sums ≡ 64)
    × ((j : ℕ) → j < 8 → (block : List ℕ) → Begins j l.window block → HasSums j l.sums block l.t)
