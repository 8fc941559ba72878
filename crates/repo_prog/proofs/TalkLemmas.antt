use Rattle.std.proofs.Common.{◌≡◌, ◌++◌, ◌∷◌, [], ℕ, List, Option, Some, None, Result, Ok, Err, OnOk, length, refl, sym, ap, subst, inl, append_assoc, ◌∙◌}
use Rattle.std.specs.Prelude.{ok_or}
use Rattle.repo_wire.specs.Stream.{Waits}
use Rattle.repo_store.specs.declared.forms.ServiceError.{ServiceError}
use Rattle.repo_store.specs.declared.memory.MemShelf.{MemShelf}
use Rattle.repo_store.specs.declared.services.Service.{Service}
use Rattle.repo_store.specs.Memory.{store_of}
use Rattle.repo_store.specs.Services.{nothing, Rests, ServiceEnds, EndsBy, AnswersAll, Finishes}
use Rattle.repo_store.specs.Serving.{Past, seen}
use Rattle.repo_store.specs.Stores.{Store, empty}
use Rattle.repo_store.proofs.ServiceLemmas.{whole_served, all_served}
use Rattle.repo_prog.specs.declared.errors.FramesError.{FramesError}
use Rattle.repo_prog.specs.declared.output.HexLine.{HexLine}
use Rattle.repo_prog.specs.declared.talks.Talk.{Talk}
use Rattle.repo_prog.specs.FramesRun.{AllTold, SomeTold, FramesGive}
use Rattle.repo_prog.specs.HexLines.{AreLines, IsHexLine, Spell, hex_line, line_feed}
use Rattle.repo_prog.specs.Talks.{Talks, TalksInside, LineGives, BytesGive, EndGives, frames_error}
use Rattle.repo_prog.proofs.LineLemmas.{line_more}

-- all lines of the replies so far were written
pub all_told : (start : Option (List ℕ)) (talk : Talk) (lines : List (List ℕ)) (past : Past) (contents : Option (List ℕ)) → Talks start talk lines past contents
    → AllTold start lines past (Waits talk.service.reader.unread) contents
all_told start talk lines past contents talks = record {
  spelled = talks.spelled;
  last = store_of talk.shelf;
  served = all_served hex_line (seen empty 0 start) talk.service past (seen (store_of talk.shelf) 0 contents) talks.rests;
}

pub whole_told : (start : Option (List ℕ)) (talk : Talk) (lines : List (List ℕ)) (past : Past) (contents : Option (List ℕ)) → Talks start talk lines past contents
    → SomeTold start lines past contents
whole_told start talk lines past contents talks = record {
  spelled = talks.spelled;
  last = store_of talk.shelf;
  served = whole_served hex_line (seen empty 0 start) talk.service past (seen (store_of talk.shelf) 0 contents) talks.rests.has;
}

-- no memory, after all lines were written
pub memory_told : (input rest : List ℕ) (unread start : Option (List ℕ)) (talk : Talk) (lines : List (List ℕ)) (past : Past) (contents : Option (List ℕ)) → AreLines input lines rest
    → Talks start talk lines past contents → FramesGive input unread start (Err FramesError.Memory) contents
memory_told input rest unread start talk lines past contents are talks = (lines, past, rest, are, whole_told start talk lines past contents talks)

-- why the service ended is why the talk does
ended_past : (error : ServiceError) (input rest : List ℕ) (unread start : Option (List ℕ)) (lines : List (List ℕ)) (past : Past) (last : Store) (contents : Option (List ℕ))
    → AreLines input lines rest → Spell lines past.bytes → EndsBy hex_line error (seen empty 0 start) past (seen last 0 contents) → FramesGive input unread start (Err (frames_error error)) contents
ended_past (ServiceError.Wire fault) input rest unread start lines past last contents are spelled ends = (lines, past, rest, are, record { spelled = spelled; last = last; served = ends })
ended_past ServiceError.Write input rest unread start lines past last contents are spelled ends = (lines, past, rest, are, record { spelled = spelled; last = last; served = ends })
ended_past ServiceError.Limit input rest unread start lines past last contents are spelled ends = (lines, past, rest, are, record { spelled = spelled; last = last; served = ends.0 }, inl ends.1)
ended_past ServiceError.Memory input rest unread start lines past last contents are spelled ends = (lines, past, rest, are, record { spelled = spelled; last = last; served = ends })

pub ended_told : (error : ServiceError) (input rest : List ℕ) (unread start : Option (List ℕ)) (lines : List (List ℕ)) (bytes : List ℕ) (last : Store) (contents : Option (List ℕ))
    → AreLines input lines rest → Spell lines bytes → ServiceEnds hex_line error (seen empty 0 start) bytes (seen last 0 contents) → FramesGive input unread start (Err (frames_error error)) contents
ended_told error input rest unread start lines bytes last contents are spelled ends =
    let P : List ℕ → Type 0 = λ x. Spell lines x in
    ended_past error input rest unread start lines ends.0 last contents are (subst P (sym ends.1) spelled) ends.2

-- a service that answered all of a line's bytes
pub line_answered : (start : Option (List ℕ)) (talk : Talk) (lines : List (List ℕ)) (bytes : List ℕ) (contents : Option (List ℕ)) → Spell lines bytes → talk.number ≡ length lines
    → AnswersAll hex_line (Ok tt) (seen empty 0 start) bytes talk.service (seen (store_of talk.shelf) 0 contents) → (past : Past) × Talks start talk lines past contents
line_answered start talk lines bytes contents spelled number a =
    let P : List ℕ → Type 0 = λ x. Spell lines x in
    (a.0, record { spelled = subst P (sym a.1) spelled; rests = a.2; number = number })

-- a line that ended, and nothing of the next
pub ended_goes : (input ahead : List ℕ) (unread start : Option (List ℕ)) (new : Talk) (lines : List (List ℕ)) (result : Result (Unit {0}) FramesError) (contents : Option (List ℕ))
    → AreLines input lines ahead → OnOk result (new.line.items ≡ []) → LineGives input unread start lines result new contents → BytesGive input unread start result new ahead contents
ended_goes input ahead unread start new lines (Ok done) contents ended none h =
    let P : List ℕ → Type 0 = λ line. IsHexLine line in
    let Q : List ℕ → Type 0 = λ line. AreLines input lines (line ++ ahead) in
    (lines, h.0, record { talks = h.1; line = subst P (sym none) tt; are = subst Q (sym none) ended })
ended_goes input ahead unread start new lines (Err error) contents ended none h = h

-- the last line that ended
pub last_goes : (input : List ℕ) (unread start : Option (List ℕ)) (new : Talk) (lines : List (List ℕ)) (result : Result (Unit {0}) FramesError) (contents : Option (List ℕ))
    → AreLines input lines [] → LineGives input unread start lines result new contents → EndGives input unread start result new contents
last_goes input unread start new lines (Ok done) contents ended h = (lines, h.0, ended, h.1)
last_goes input unread start new lines (Err error) contents ended h = h

-- one more byte of the line
pub byte_taken : (input ahead : List ℕ) (start : Option (List ℕ)) (old new : Talk) (lines : List (List ℕ)) (past : Past) (contents : Option (List ℕ)) (byte : ℕ) → (byte ≡ line_feed → ⊥)
    → new.line.items ≡ old.line.items ++ byte ∷ [] → new.service ≡ old.service → new.shelf ≡ old.shelf → new.number ≡ old.number
    → TalksInside input start old lines past (byte ∷ ahead) contents → TalksInside input start new lines past ahead contents
byte_taken input ahead start old new lines past contents byte other line service shelf number r =
    let P : List ℕ → Type 0 = λ x. IsHexLine x in
    let Q : List ℕ → Type 0 = λ x. AreLines input lines x in
    let R : Service HexLine → Type 0 = λ s. Rests hex_line (seen empty 0 start) s past (seen (store_of new.shelf) 0 contents) in
    let S : MemShelf → Type 0 = λ s. Rests hex_line (seen empty 0 start) old.service past (seen (store_of s) 0 contents) in
    record {
      talks = record { spelled = r.talks.spelled; rests = subst R (sym service) (subst S (sym shelf) r.talks.rests); number = number ∙ r.talks.number };
      line = subst P (sym line) (line_more old.line.items byte r.line other);
      are = subst Q (sym (ap (λ x. x ++ ahead) line ∙ append_assoc old.line.items (byte ∷ []) ahead)) r.are;
    }

-- a new talk is before the input
pub begun : (input : List ℕ) (start : Option (List ℕ)) (talk : Talk) → Talks start talk [] nothing start → talk.line.items ≡ [] → TalksInside input start talk [] nothing input start
begun input start talk talks none =
    let P : List ℕ → Type 0 = λ line. IsHexLine line in
    let Q : List ℕ → Type 0 = λ line. AreLines input [] (line ++ input) in
    record { talks = talks; line = subst P (sym none) tt; are = subst Q (sym none) refl }

-- what the end of the service's stream gives is what the talk gives
pub finish_told : (input : List ℕ) (unread start : Option (List ℕ)) (lines : List (List ℕ)) (past : Past) (last : Store) (contents : Option (List ℕ)) (found : Option ℕ) → AreLines input lines []
    → Spell lines past.bytes → Finishes hex_line (seen empty 0 start) past found (seen last 0 contents) → FramesGive input unread start (ok_or found FramesError.Inside) contents
finish_told input unread start lines past last contents (Some n) are spelled h = (lines, past, are, record { spelled = spelled; last = last; served = h.1 }, h.0)
finish_told input unread start lines past last contents None are spelled h = (lines, past, h.0, are, h.1, record { spelled = spelled; last = last; served = h.2 })
