-- So many pieces were read and taken, each with a byte or more.
use Rattle.std.proofs.Common.{◌≡◌, ◌≤◌, ◌<◌, ◌+◌, ℕ, List, Some, length}
use Rattle.repo_play.specs.inner.Scripts.{ScriptStands}
use Rattle.repo_play.proofs.playing.play_on.Given as goal

abbrev pub invariant-loop-turn : goal.invariant-loop-turn
invariant-loop-turn g l = record {
  stands : (input : List ℕ) → g.R.Read.remaining l.fn.reader ≡ Some input → ScriptStands input (g.W.Write.contents l.fn.writer) l.fn.script input (g.W.Write.contents l.fn.writer)
      → (left : List ℕ) × (g.R.Read.remaining l.reader ≡ Some left) × (length left + l.turn ≤ length input) × ScriptStands input (g.W.Write.contents l.fn.writer) l.script left (g.W.Write.contents l.writer);
  piece : 0 < length l.piece;
  grammar : l.script.grammar ≡ l.fn.script.grammar;
}
