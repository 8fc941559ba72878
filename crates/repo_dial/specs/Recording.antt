-- What a channel in memory recorded.
use Rattle.std.specs.Prelude.{◌≡◌, ◌++◌, ◌∷◌, [], ℕ, Bool, true, false, List, Option, Some, None}
use Rattle.std.proofs.Common.{sym}
use Rattle.repo_store.specs.Channels.{Passage, heard, said}
use Rattle.repo_dial.specs.Ends.{ConnectionEnds, GoesBy, Records}
use Rattle.repo_dial.specs.declared.recording.Went.{Went}

abbrev pub passage_of : Went → Passage
passage_of (Went.Heard bytes) = heard bytes
passage_of (Went.Said bytes) = said bytes

-- what went, the newest first, before these passages
abbrev pub onto : List Passage → List Went → List Passage
onto passages [] = passages
onto passages (x ∷ went) = onto (passage_of x ∷ passages) went

-- what was recorded, where all was
abbrev pub recorded : Bool → List Went → Option (List Passage)
recorded true went = Some (onto [] went)
recorded false went = None

-- the ends of a channel that records
abbrev pub record_ends : List ℕ → Option (List Passage) → ConnectionEnds
record_ends left tape = record { ahead = Some left; sent = None; passages = tape }

-- they go on so
pub heard_recorded : (left : List ℕ) (tape : Option (List Passage)) (bytes rest : List ℕ) (more : Option (List Passage)) → left ≡ bytes ++ rest → Records tape (heard bytes ∷ []) more
    → GoesBy (record_ends left tape) (heard bytes ∷ []) (record_ends rest more)
heard_recorded left tape bytes rest more read noted = record { read = read; sent = tt; recorded = noted }

pub said_recorded : (left : List ℕ) (tape : Option (List Passage)) (bytes rest : List ℕ) (more : Option (List Passage)) → rest ≡ left → Records tape (said bytes ∷ []) more
    → GoesBy (record_ends left tape) (said bytes ∷ []) (record_ends rest more)
said_recorded left tape bytes rest more same noted = record { read = sym same; sent = tt; recorded = noted }
