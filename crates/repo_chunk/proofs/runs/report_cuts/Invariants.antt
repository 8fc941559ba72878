use Rattle.std.proofs.Common.{take}
use Rattle.repo_chunk.specs.Runs.{stream_of, HoldsLength, IsUnderWay}
use Rattle.repo_chunk.proofs.runs.report_cuts.Given as goal

abbrev pub invariant-loop-piece : goal.invariant-loop-piece
invariant-loop-piece g l = goal.F-IsAlwaysCallable g l.report
    × HoldsLength l.chunker l.begun
    × IsUnderWay (goal.F-step g) l.fn.report l.fn.params (stream_of (take l.piece-index l.pieces)) l.chunker l.begun l.report
