use Rattle.std.proofs.Common.{◌≡◌, ◌+◌, ◌^◌, ◌<◌, ℕ, List}
use Rattle.repo_chunk.specs.Rabin.{remainder}
use Rattle.repo_chunk.specs.inner.Rolling.{IsRoll, window_at, HasNoMarkBefore}
use Rattle.repo_chunk.proofs.rolling.scan.Given as goal

abbrev pub invariant-loop-i : goal.invariant-loop-i
invariant-loop-i l = record {
  degree : l.so_far < 2 ^ 53;
  at : (bytes : List ℕ) → IsRoll bytes l.fingerprint l.leaving l.entering → l.so_far ≡ remainder (window_at bytes l.i);
  none : (bytes : List ℕ) → IsRoll bytes l.fingerprint l.leaving l.entering → HasNoMarkBefore l.bits bytes (l.i + 1);
}
