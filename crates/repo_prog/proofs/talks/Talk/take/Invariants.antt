use Rattle.std.proofs.Common.{◌≤◌, ◌<◌, ◌^◌, ◌+◌, ◌++◌, ℕ, List, Option, drop}
use Rattle.repo_store.specs.Serving.{Past}
use Rattle.repo_prog.specs.Talks.{TalksInside}
use Rattle.repo_prog.proofs.talks.Talk.take.Given as goal

abbrev pub invariant-loop-byte : goal.invariant-loop-byte
invariant-loop-byte g l = record {
  next : (input ahead : List ℕ) (start : Option (List ℕ)) (lines : List (List ℕ)) (past : Past) → TalksInside input start l.fn.self lines past (l.piece ++ ahead) (g.W.Write.contents l.fn.writer)
      → (now : List (List ℕ)) × (next : Past) × TalksInside input start l.self now next (drop l.byte-index l.piece ++ ahead) (g.W.Write.contents l.writer);
  few : l.self.service.answered < 2 ^ 32;
  number : l.self.number ≤ l.fn.self.number + l.byte-index;
}
