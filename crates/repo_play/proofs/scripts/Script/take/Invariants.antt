-- Of the lines that have ended the first ones were run, and what they print was written.
use Rattle.std.proofs.Common.{◌≡◌, ◌++◌, ℕ, List, Option, length}
use Rattle.repo_play.specs.inner.Scripts.{HasRun, ScriptStands}
use Rattle.repo_play.proofs.scripts.Script.take.Given as goal

abbrev pub invariant-loop-line : goal.invariant-loop-line
invariant-loop-line g l = record {
  stands : (input : List ℕ) (start : Option (List ℕ)) (ahead : List ℕ) → ScriptStands input start l.fn.self (l.fn.piece ++ ahead) (g.W.Write.contents l.fn.writer)
      → HasRun input start l.self ahead (g.W.Write.contents l.writer);
  grammar : l.self.grammar ≡ l.fn.self.grammar;
}

abbrev pub decreases-loop-line : goal.decreases-loop-line
decreases-loop-line g l = length l.self.cutter
