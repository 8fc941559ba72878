use Rattle.std.specs.Prelude.{◌≡◌, ◌<◌, ◌++◌, [], ℕ, List, length, Option, Some, Result, Ok, Err, Bool, true, false, ◌∷◌}
use Rattle.repo_store.specs.declared.forms.ServiceError.{ServiceError}
use Rattle.repo_store.specs.Memory.{store_of}
use Rattle.repo_store.specs.Services.{Rests}
use Rattle.repo_store.specs.Serving.{Past, seen}
use Rattle.repo_store.specs.Stores.{empty}
use Rattle.repo_prog.specs.declared.errors.FramesError.{FramesError}
use Rattle.repo_prog.specs.declared.talks.Talk.{Talk}
use Rattle.repo_prog.specs.FramesRun.{FramesGive}
use Rattle.repo_prog.specs.HexLines.{AreLines, IsHexLine, Spell, hex_line}

-- the error of a service's error
abbrev pub frames_error : ServiceError → FramesError
frames_error (ServiceError.Wire fault) = FramesError.Wire fault
frames_error ServiceError.Write = FramesError.Write
frames_error ServiceError.Limit = FramesError.Limit
frames_error ServiceError.Memory = FramesError.Memory

-- a talk that read these lines: its service rests, from the empty store
pub record Talks (start : Option (List ℕ)) (talk : Talk) (lines : List (List ℕ)) (past : Past) (contents : Option (List ℕ)) : Type 0 where
  pub spelled : Spell lines past.bytes
  pub rests : Rests hex_line (seen empty 0 start) talk.service past (seen (store_of talk.shelf) 0 contents)
  pub number : talk.number ≡ length lines

-- it is inside a line of the input, and these bytes are ahead
pub record TalksInside (input : List ℕ) (start : Option (List ℕ)) (talk : Talk) (lines : List (List ℕ)) (past : Past) (ahead : List ℕ) (contents : Option (List ℕ)) : Type 0 where
  pub talks : Talks start talk lines past contents
  pub line : IsHexLine talk.line.items
  pub are : AreLines input lines (talk.line.items ++ ahead)

-- what the end of a line gives: it goes on after these lines, or it ends with an error
abbrev pub LineGives : List ℕ → Option (List ℕ) → Option (List ℕ) → List (List ℕ) → Result (Unit {0}) FramesError → Talk → Option (List ℕ) → Type 0
LineGives input unread start lines (Ok done) talk contents = (past : Past) × Talks start talk lines past contents
LineGives input unread start lines (Err error) talk contents = FramesGive input unread start (Err error) contents

-- what some bytes give: it goes on where these are ahead, or it ends with an error
abbrev pub BytesGive : List ℕ → Option (List ℕ) → Option (List ℕ) → Result (Unit {0}) FramesError → Talk → List ℕ → Option (List ℕ) → Type 0
BytesGive input unread start (Ok done) talk ahead contents = (lines : List (List ℕ)) × (past : Past) × TalksInside input start talk lines past ahead contents
BytesGive input unread start (Err error) talk ahead contents = FramesGive input unread start (Err error) contents

-- what the end of the input gives: all its lines were read, or it ends with an error
abbrev pub EndGives : List ℕ → Option (List ℕ) → Option (List ℕ) → Result (Unit {0}) FramesError → Talk → Option (List ℕ) → Type 0
EndGives input unread start (Ok done) talk contents = (lines : List (List ℕ)) × (past : Past) × AreLines input lines [] × Talks start talk lines past contents
EndGives input unread start (Err error) talk contents = FramesGive input unread start (Err error) contents

-- what reading a piece gives: some bytes of those ahead are taken, or none is ahead, or an error's answer
abbrev pub FramesPieceGives : List ℕ → Option (List ℕ) → List ℕ → Option (List ℕ) → Result Bool FramesError → Talk → Option (List ℕ) → Type 0
FramesPieceGives input start ahead left (Ok true) talk contents =
    (after : List ℕ) × (left ≡ Some after) × (length after < length ahead) × (lines : List (List ℕ)) × (past : Past) × TalksInside input start talk lines past after contents
FramesPieceGives input start ahead left (Ok false) talk contents = (lines : List (List ℕ)) × (past : Past) × TalksInside input start talk lines past [] contents
FramesPieceGives input start ahead left (Err error) talk contents = FramesGive input left start (Err error) contents

-- ---- wherever a talk stands: it ends a line, takes bytes of its input, ends the last line, ends, or reads once

abbrev pub EndsLine : Talk → Option (List ℕ) → Result (Unit {0}) FramesError → Talk → Option (List ℕ) → Type 0
EndsLine old before result new after = (input ahead : List ℕ) (unread start : Option (List ℕ)) (lines : List (List ℕ)) (past : Past) → Talks start old lines past before
    → AreLines input (lines ++ old.line.items ∷ []) ahead → LineGives input unread start (lines ++ old.line.items ∷ []) result new after

abbrev pub TakesBytes : List ℕ → Talk → Option (List ℕ) → Result (Unit {0}) FramesError → Talk → Option (List ℕ) → Type 0
TakesBytes bytes old before result new after = (input ahead : List ℕ) (unread start : Option (List ℕ)) (lines : List (List ℕ)) (past : Past)
    → TalksInside input start old lines past (bytes ++ ahead) before → BytesGive input unread start result new ahead after

abbrev pub EndsLastLine : Talk → Option (List ℕ) → Result (Unit {0}) FramesError → Talk → Option (List ℕ) → Type 0
EndsLastLine old before result new after = (input : List ℕ) (unread start : Option (List ℕ)) (lines : List (List ℕ)) (past : Past) → TalksInside input start old lines past [] before
    → EndGives input unread start result new after

abbrev pub EndsTalk : Talk → Option (List ℕ) → Result ℕ FramesError → Option (List ℕ) → Type 0
EndsTalk talk before result after = (input : List ℕ) (unread start : Option (List ℕ)) (lines : List (List ℕ)) (past : Past) → TalksInside input start talk lines past [] before
    → FramesGive input unread start result after

abbrev pub TalkReads : Option (List ℕ) → Talk → Option (List ℕ) → Result Bool FramesError → Option (List ℕ) → Talk → Option (List ℕ) → Type 0
TalkReads unread old before result left new after = (input ahead : List ℕ) (start : Option (List ℕ)) (lines : List (List ℕ)) (past : Past) → unread ≡ Some ahead
    → TalksInside input start old lines past ahead before → FramesPieceGives input start ahead left result new after
