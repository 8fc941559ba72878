use Rattle.std.proofs.Common.{◌≡◌, ℕ, ◌+◌, ◌<◌, IfSome}
use Rattle.repo_sha.specs.inner.Batches.{at}
use Rattle.repo_sha.specs.inner.Lanes.{lane}
use Rattle.repo_sha.specs.inner.Messages.{hash_to}
use Rattle.repo_sha.proofs.turns.hashes_after.Given as goal

abbrev pub invariant-steps : goal.invariant-steps
invariant-steps l = (j : ℕ) → j < 8 → IfSome (at l.lanes j) (λ piece.
    lane j l.hashes ≡ hash_to piece.message.bytes.now (piece.place + l.step))
