use Rattle.std.proofs.Common.{◌≡◌, ℕ, List, ◌++◌, length}
use Rattle.repo_chunk.specs.Parameters.{Parameters}
use Rattle.repo_chunk.specs.Runs.{HoldsLength, IsUnderWay}
use Rattle.repo_chunk.proofs.runs.feed_all.Given as goal

-- the closure may be called, and the front of the piece is fed
abbrev pub invariant-loop-n : goal.invariant-loop-n
invariant-loop-n g l = goal.F-IsAlwaysCallable g l.report
    × HoldsLength l.chunker l.begun
    × ((front : List ℕ) × (front ++ l.rest ≡ l.piece) × ((start : _) (params : Parameters) (bytes : List ℕ)
    → IsUnderWay (goal.F-step g) start params bytes l.fn.chunker l.before l.fn.report
    → IsUnderWay (goal.F-step g) start params (bytes ++ front) l.chunker l.begun l.report))

abbrev pub decreases-loop-n : goal.decreases-loop-n
decreases-loop-n g l = length l.rest
