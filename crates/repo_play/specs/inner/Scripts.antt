-- Where a script stands that comes in pieces.
use Rattle.std.specs.Prelude.{◌≡◌, ◌⊎◌, ◌≤◌, ◌+◌, ◌^◌, ◌++◌, ◌∷◌, [], ⊤, ℕ, Bool, true, false, List, length, Option, Some, Result, Ok, Err}
use Rattle.std.specs.Io.KnownBytes.{Appends}
use Rattle.repo_script.specs.Cuts.{cut, line_feed}
use Rattle.repo_script.specs.declared.lines.Line.{Line}
use Rattle.repo_play.specs.Lines.{State, IsFreshScript, GoesFar}
use Rattle.repo_play.specs.inner.Players.{state_on}
use Rattle.repo_play.specs.Plays.{SayAll, Plays, Carries, IsUnderstood, IsNotUnderstood}
use Rattle.repo_play.specs.declared.faults.Halt.{Halt}
use Rattle.repo_play.specs.declared.faults.LoopError.{LoopError}
use Rattle.repo_play.specs.declared.faults.PlayError.{PlayError}
use Rattle.repo_play.specs.declared.scripts.Script.{Script}
use Rattle.repo_play.specs.declared.faults.CarryError.{CarryError}

-- these lines were run, from the beginning, and what they print was written
pub record RanLines {C : Type 0} (start : Option (List ℕ)) (script : Script C) (lines : List (List ℕ)) (text : List ℕ) (contents : Option (List ℕ)) : Type 0 where
  pub begun : State
  pub fresh : IsFreshScript false begun
  pub say : SayAll script.grammar 0 lines begun text (state_on script.stage)
  pub number : script.number ≡ length lines
  pub wrote : Appends start contents text

-- and this of the input is still to come; what came is cut into these lines, and what the cutter has
pub record HasRun {C : Type 0} (input : List ℕ) (start : Option (List ℕ)) (script : Script C) (ahead : List ℕ) (contents : Option (List ℕ)) : Type 0 where
  pub came : List ℕ
  pub whole : input ≡ came ++ ahead
  pub lines : List (List ℕ)
  pub text : List ℕ
  pub cuts : cut line_feed came ≡ lines ++ cut line_feed script.cutter
  pub ran : RanLines start script lines text contents

-- and no line has ended in what the cutter has
abbrev pub ScriptStands : {C : Type 0} → List ℕ → Option (List ℕ) → Script C → List ℕ → Option (List ℕ) → Type 0
ScriptStands input start script ahead contents = HasRun input start script ahead contents × (cut line_feed script.cutter ≡ script.cutter ∷ [])

-- the bytes of a line, behind so many, aren't run: they aren't understood; or there are too many lines, or it is understood and takes too many steps; or there
-- is no memory; or it is understood, and a message of it wasn't carried
abbrev pub ScriptStops : {C : Type 0} → Script C → List ℕ → LoopError → Type 0
ScriptStops script bytes (LoopError.Play (PlayError.Line n)) = IsNotUnderstood script.grammar script.number bytes (state_on script.stage) × (n ≡ script.number + 1)
ScriptStops script bytes (LoopError.Play PlayError.Limit) = ((line : Line) × IsUnderstood script.grammar bytes line × GoesFar line (state_on script.stage).world) ⊎ (2 ^ 32 ≤ script.number)
ScriptStops script bytes (LoopError.Play PlayError.Memory) = ⊤
ScriptStops script bytes (LoopError.Carry error) = (line : Line) × IsUnderstood script.grammar bytes line × Carries line
ScriptStops script bytes _ = ⊥

-- one more line was run; or the script ends, whatever is unread
abbrev pub LineRuns : {C : Type 0} → List ℕ → Option (List ℕ) → List (List ℕ) → Result (Unit {0}) LoopError → Script C → Option (List ℕ) → Type 0
LineRuns input start lines (Ok done) script contents = (text : List ℕ) × RanLines start script lines text contents
LineRuns input start lines (Err error) script contents = (unread : Option (List ℕ)) → Plays script.grammar input unread start (Err error) contents

-- a piece was taken; or the script ends, whatever is unread
abbrev pub PieceRuns : {C : Type 0} → List ℕ → Option (List ℕ) → List ℕ → Result (Unit {0}) LoopError → Script C → Option (List ℕ) → Type 0
PieceRuns input start ahead (Ok done) script contents = ScriptStands input start script ahead contents
PieceRuns input start ahead (Err error) script contents = (unread : Option (List ℕ)) → Plays script.grammar input unread start (Err error) contents

-- a piece was read and taken, or there is none any more; or the script ends
abbrev pub ReadGives : {C : Type 0} → List ℕ → Option (List ℕ) → List ℕ → Option (List ℕ) → Result Bool LoopError → Script C → Option (List ℕ) → Type 0
ReadGives input start ahead remaining (Ok true) script contents =
    (left : List ℕ) × (remaining ≡ Some left) × (length left + 1 ≤ length ahead) × ScriptStands input start script left contents
ReadGives input start ahead remaining (Ok false) script contents = ScriptStands input start script [] contents
ReadGives input start ahead remaining (Err error) script contents = Plays script.grammar input remaining start (Err error) contents

-- it may halt so, where what carries messages may fail so: an error of it is one with which it may
abbrev pub HaltsBy : (CarryError → Type 0) → Halt → Type 0
HaltsBy Fails (Halt.Carry error) = Fails error
HaltsBy Fails _ = ⊤

-- ---- wherever a script stands: it runs a line, a piece of its input, all that is left, or what a reader gives

abbrev pub RunsLine : {C : Type 0} → List ℕ → Script C → Option (List ℕ) → Result (Unit {0}) LoopError → Script C → Option (List ℕ) → Type 0
RunsLine bytes old before result new after = (input : List ℕ) (start : Option (List ℕ)) (lines left : List (List ℕ)) (text : List ℕ) → cut line_feed input ≡ lines ++ bytes ∷ left
    → RanLines start old lines text before → LineRuns input start (lines ++ bytes ∷ []) result new after

abbrev pub RunsPiece : {C : Type 0} → List ℕ → Script C → Option (List ℕ) → Result (Unit {0}) LoopError → Script C → Option (List ℕ) → Type 0
RunsPiece piece old before result new after = (input : List ℕ) (start : Option (List ℕ)) (ahead : List ℕ) → ScriptStands input start old (piece ++ ahead) before
    → PieceRuns input start ahead result new after

abbrev pub RunsToEnd : {C : Type 0} → Script C → Option (List ℕ) → Result (Unit {0}) LoopError → Option (List ℕ) → Type 0
RunsToEnd old before result after = (input : List ℕ) (unread start : Option (List ℕ)) → ScriptStands input start old [] before → Plays old.grammar input unread start result after

abbrev pub ScriptReads : {C : Type 0} → Option (List ℕ) → Script C → Option (List ℕ) → Result Bool LoopError → Option (List ℕ) → Script C → Option (List ℕ) → Type 0
ScriptReads unread old before result left new after = (input ahead : List ℕ) (start : Option (List ℕ)) → unread ≡ Some ahead → ScriptStands input start old ahead before
    → ReadGives input start ahead left result new after
