use Rattle.std.proofs.Common.{◌≡◌, ◌≤◌, ◌<◌, ◌^◌, ◌+◌, ◌*◌, List, ℕ, Some, length, vec_len}
use Rattle.repo_store.specs.Serving.{Past}
use Rattle.repo_prog.specs.Talks.{TalksInside}
use Rattle.repo_prog.proofs.frames_engine.frames.Given as goal

abbrev pub invariant-loop-turn : goal.invariant-loop-turn
invariant-loop-turn g l = record {
  next : (input : List ℕ) → g.R.Read.remaining l.fn.reader ≡ Some input
      → (ahead : List ℕ) × (g.R.Read.remaining l.reader ≡ Some ahead) × (l.turn + length ahead ≤ length input)
      × (lines : List (List ℕ)) × (past : Past) × TalksInside input (g.W.Write.contents l.fn.writer) l.talk lines past ahead (g.W.Write.contents l.writer);
  few : l.talk.service.answered < 2 ^ 32;
  number : l.talk.number ≤ l.turn * 8192;
  piece : vec_len l.piece ≡ 8192;
}
