use Rattle.std.proofs.Common.{ℕ, ◌<◌, ◌≤◌, ◌*◌, get_or}
use Rattle.repo_pack.proofs.rows.has_kinds.Given as goal

-- each kind so far is 0 or 1
abbrev pub invariant-loop-place : goal.invariant-loop-place
invariant-loop-place l = (k : ℕ) → k < l.place → get_or l.header (37 * k) 0 ≤ 1
