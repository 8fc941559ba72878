use Rattle.std.specs.Prelude.{◌≡◌, ◌≢◌, ◌⊎◌, ◌+◌, ◌≤◌, ◌^◌, ◌++◌, ◌∷◌, [], ℕ, List, length, Option, Some, Result, Ok, Err}
use Rattle.repo_wire.specs.Stream.{Ending, Waits, Fails}
use Rattle.repo_store.specs.Serving.{Past, seen, AllServed, SomeServed}
use Rattle.repo_store.specs.Stores.{Store, empty}
use Rattle.repo_prog.specs.declared.errors.FramesError.{FramesError}
use Rattle.repo_prog.specs.HexLines.{AreLines, IsHexLine, Spell, IsNotHex, hex_line}

-- the lines spell bytes that read as the requests and this ending; each was answered, from the empty store, by a device that counts no failure; and the lines of all replies were written
pub record AllTold (start : Option (List ℕ)) (lines : List (List ℕ)) (past : Past) (ending : Ending) (contents : Option (List ℕ)) : Type 0 where
  pub spelled : Spell lines past.bytes
  pub last : Store
  pub served : AllServed hex_line (seen empty 0 start) past ending (seen last 0 contents)

-- the lines spell bytes that begin with the requests; each was answered so; and some first part of the lines of the replies was written
pub record SomeTold (start : Option (List ℕ)) (lines : List (List ℕ)) (past : Past) (contents : Option (List ℕ)) : Type 0 where
  pub spelled : Spell lines past.bytes
  pub last : Store
  pub served : SomeServed hex_line (seen empty 0 start) past (seen last 0 contents)

-- what is given for this input, of which this is unread in the end, by what is returned
abbrev pub FramesGive : List ℕ → Option (List ℕ) → Option (List ℕ) → Result ℕ FramesError → Option (List ℕ) → Type 0
-- all lines, all requests, and the input ends between frames
FramesGive input unread start (Ok n) contents = (lines : List (List ℕ)) × (past : Past) × AreLines input lines [] × AllTold start lines past (Waits []) contents × (n ≡ length past.asked)
-- the lines before this one, and it isn't hexadecimal
FramesGive input unread start (Err (FramesError.Hex n)) contents =
    (lines : List (List ℕ)) × (past : Past) × (line rest waiting : List ℕ) × AreLines input (lines ++ line ∷ []) rest × IsNotHex line × (n ≡ length lines + 1) × AllTold start lines past (Waits waiting) contents
-- the lines up to some, and the stream has this fault
FramesGive input unread start (Err (FramesError.Wire fault)) contents =
    (lines : List (List ℕ)) × (past : Past) × (rest : List ℕ) × AreLines input lines rest × AllTold start lines past (Fails fault) contents
-- all lines, and the input ends inside a frame
FramesGive input unread start (Err FramesError.Inside) contents =
    (lines : List (List ℕ)) × (past : Past) × (waiting : List ℕ) × AreLines input lines [] × (waiting ≢ []) × AllTold start lines past (Waits waiting) contents
-- just the lines that had ended in what was read
FramesGive input unread start (Err FramesError.Read) contents = (lines : List (List ℕ)) × (past : Past) × (last ahead waiting : List ℕ)
    × AreLines input lines (last ++ ahead) × IsHexLine last × (unread ≡ Some ahead) × AllTold start lines past (Waits waiting) contents
-- the lines up to some
FramesGive input unread start (Err FramesError.Write) contents = (lines : List (List ℕ)) × (past : Past) × (rest : List ℕ) × AreLines input lines rest × SomeTold start lines past contents
-- 2^32 requests were answered, or the input has as many bytes as there may be reads
FramesGive input unread start (Err FramesError.Limit) contents =
    (lines : List (List ℕ)) × (past : Past) × (rest : List ℕ) × AreLines input lines rest × SomeTold start lines past contents × ((2 ^ 32 ≤ length past.asked) ⊎ (2 ^ 48 ≤ length input))
FramesGive input unread start (Err FramesError.Memory) contents = (lines : List (List ℕ)) × (past : Past) × (rest : List ℕ) × AreLines input lines rest × SomeTold start lines past contents
