-- What is written of a script.
use Rattle.std.specs.Prelude.{◌≡◌, ◌≢◌, ◌⊎◌, ◌≤◌, ◌+◌, ◌^◌, ◌++◌, ◌∷◌, [], ℕ, true, false, List, length, Option, Some, Result, Ok, Err, ⊤}
use Rattle.std.specs.Io.KnownBytes.{Appends}
use Rattle.repo_store.specs.Output.{AppendsPart}
use Rattle.repo_script.specs.Cuts.{cut, line_feed}
use Rattle.repo_script.specs.Lines.{IsLine}
use Rattle.repo_script.specs.declared.lines.Line.{Line}
use Rattle.repo_world.specs.Rules.{AllAreRuled}
use Rattle.repo_play.specs.Lines.{State, IsFreshScript, MayStand, Does, IsNonsense, GoesFar}
use Rattle.repo_play.specs.declared.faults.LoopError.{LoopError}
use Rattle.repo_play.specs.declared.faults.PlayError.{PlayError}
use Rattle.repo_play.specs.declared.grammars.Grammar.{Grammar}
use Rattle.repo_play.specs.declared.faults.CarryError.{CarryError}

-- ---- the bytes of a line, behind so many other lines

-- they are this line, and it is understood
abbrev pub IsUnderstood : Grammar → List ℕ → Line → Type 0
IsUnderstood grammar bytes line = IsLine bytes line × MayStand grammar line

-- a first line says that the store only appends
abbrev pub IsFirstLine : Grammar → ℕ → List ℕ → Type 0
IsFirstLine grammar before bytes = (before ≡ 0) × IsUnderstood grammar bytes Line.AppendOnly

-- from s they lead to t, and this is printed: there are none; or they are a line, which does so; or the script begins so, with a store that only appends
abbrev pub LineSays : Grammar → ℕ → List ℕ → State → List ℕ → State → Type 0
LineSays grammar before bytes s text t =
    ((bytes ≡ []) × (text ≡ []) × (t ≡ s))
    ⊎ (((line : Line) × IsUnderstood grammar bytes line × Does line s text t)
    ⊎ (IsFirstLine grammar before bytes × (text ≡ []) × IsFreshScript true t))

-- they aren't understood: they are no line that is, or one that makes no sense here
pub record IsNotUnderstood (grammar : Grammar) (before : ℕ) (bytes : List ℕ) (s : State) : Type 0 where
  pub some : bytes ≢ []
  pub nonsense : (line : Line) → IsUnderstood grammar bytes line → IsNonsense line s
  pub later : ¬ IsFirstLine grammar before bytes

-- ---- all lines

-- from s these lines, behind so many, lead to t, and this is printed; after each line each client goes by its job's whole rule
abbrev pub SayAll : Grammar → ℕ → List (List ℕ) → State → List ℕ → State → Type 0
SayAll grammar before [] s text t = (text ≡ []) × (t ≡ s)
SayAll grammar before (bytes ∷ lines) s text t =
    (u : State) × (first rest : List ℕ) × LineSays grammar before bytes s first u × SayAll grammar (before + 1) lines u rest t × (text ≡ first ++ rest) × AllAreRuled u.world

-- the first lines of a script lead to s, from the beginning, and this is printed; these lines are left
pub record Played (grammar : Grammar) (input : List ℕ) (done left : List (List ℕ)) (text : List ℕ) (s : State) : Type 0 where
  pub lines : cut line_feed input ≡ done ++ left
  pub begun : State
  pub fresh : IsFreshScript false begun
  pub say : SayAll grammar 0 done begun text s

-- the next line is understood, and takes too many steps
abbrev pub IsFar : Grammar → List (List ℕ) → State → Type 0
IsFar grammar left s = (bytes : List ℕ) × (more : List (List ℕ)) × (line : Line) × (left ≡ bytes ∷ more) × IsUnderstood grammar bytes line × GoesFar line s.world

-- the first lines were played, and what they print was written
pub record PlayedSome (grammar : Grammar) (input : List ℕ) (start contents : Option (List ℕ)) (lines left : List (List ℕ)) (s : State) : Type 0 where
  pub text : List ℕ
  pub played : Played grammar input lines left text s
  pub wrote : Appends start contents text

-- some first lines were
abbrev pub PlaysSome : Grammar → List ℕ → Option (List ℕ) → Option (List ℕ) → Type 0
PlaysSome grammar input start contents = (lines left : List (List ℕ)) × (s : State) × PlayedSome grammar input start contents lines left s

-- just those were that had ended in what was read: this is unread
pub record PlayedAllRead (grammar : Grammar) (input : List ℕ) (unread start contents : Option (List ℕ)) : Type 0 where
  pub came : List ℕ
  pub ahead : List ℕ
  pub whole : input ≡ came ++ ahead
  pub left : unread ≡ Some ahead
  pub lines : List (List ℕ)
  pub last : List ℕ
  pub cuts : cut line_feed came ≡ lines ++ last ∷ []
  pub rest : List (List ℕ)
  pub state : State
  pub played : PlayedSome grammar input start contents lines rest state

-- the next line, with these bytes, goes on from here and prints this, of which a first part alone is written
pub record IsHalfWritten (grammar : Grammar) (number : ℕ) (bytes : List ℕ) (s : State) (before after : Option (List ℕ)) : Type 0 where
  pub text : List ℕ
  pub state : State
  pub says : LineSays grammar number bytes s text state
  pub wrote : AppendsPart before after text

-- a line whose messages may be carried
abbrev pub Carries : Line → Type 0
Carries (Line.Step k) = ⊤
Carries (Line.Finish k) = ⊤
Carries (Line.Until k sort) = ⊤
Carries (Line.Fault k fail) = ⊤
Carries _ = ⊥

-- What is written for this input, of which this is unread in the end, by what is returned. In each case it is what the first lines print, each of which is done.
abbrev pub Plays : Grammar → List ℕ → Option (List ℕ) → Option (List ℕ) → Result (Unit {0}) LoopError → Option (List ℕ) → Type 0
-- all lines
Plays grammar input unread start (Ok done) contents = (lines : List (List ℕ)) × (s : State) × PlayedSome grammar input start contents lines [] s
-- all before this one, which isn't understood
Plays grammar input unread start (Err (LoopError.Play (PlayError.Line n))) contents = (lines left : List (List ℕ)) × (bytes : List ℕ) × (s : State)
    × PlayedSome grammar input start contents lines (bytes ∷ left) s × IsNotUnderstood grammar (length lines) bytes s × (n ≡ length lines + 1)
-- all before one that takes 2^32 steps; or 2^32 lines; or some, where the input has as many bytes as there may be reads
Plays grammar input unread start (Err (LoopError.Play PlayError.Limit)) contents = (lines left : List (List ℕ)) × (s : State)
    × PlayedSome grammar input start contents lines left s × (IsFar grammar left s ⊎ ((2 ^ 32 ≤ length lines) ⊎ (2 ^ 48 ≤ length input)))
-- all that ended in what was read
Plays grammar input unread start (Err (LoopError.Play PlayError.Read)) contents = PlayedAllRead grammar input unread start contents
-- some
Plays grammar input unread start (Err (LoopError.Play PlayError.Memory)) contents = PlaysSome grammar input start contents
-- all before one whose messages may be carried
Plays grammar input unread start (Err (LoopError.Carry error)) contents = (lines left : List (List ℕ)) × (bytes : List ℕ) × (s : State) × (line : Line)
    × PlayedSome grammar input start contents lines (bytes ∷ left) s × IsUnderstood grammar bytes line × Carries line
-- all before one, and of what that prints a first part alone
Plays grammar input unread start (Err (LoopError.Play PlayError.Write)) contents = (lines left : List (List ℕ)) × (bytes : List ℕ) × (s : State) × (before : Option (List ℕ))
    × PlayedSome grammar input start before lines (bytes ∷ left) s × IsHalfWritten grammar (length lines) bytes s before contents

-- what is returned where nothing is carried
abbrev pub uncarried : Result (Unit {0}) PlayError → Result (Unit {0}) LoopError
uncarried (Ok done) = Ok done
uncarried (Err error) = Err (LoopError.Play error)

-- it may end so, where what carries messages may fail so: an error of it is one with which it may
abbrev pub EndsBy : (CarryError → Type 0) → LoopError → Type 0
EndsBy Fails (LoopError.Carry error) = Fails error
EndsBy Fails (LoopError.Play error) = ⊤
