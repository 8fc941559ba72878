-- What goes over a channel, in order, and that a server answers in turn.
use Rattle.std.specs.Prelude.{◌≡◌, ◌++◌, ◌∷◌, [], ⊤, ℕ, List, Some, Result, Ok, Err, Bool, true, false, length, ◌<◌}
use Rattle.repo_wire.specs.Messages.{requests}
use Rattle.repo_wire.specs.Stream.{IsStream, Waits}
use Rattle.repo_store.specs.declared.serving.ServeError.{ServeError}
use Rattle.repo_store.specs.declared.services.Service.{Service}
use Rattle.repo_store.specs.Runs.{StoreRun}
use Rattle.repo_store.specs.Services.{Rests}
use Rattle.repo_store.specs.Serving.{Moment, Past, seen, plain, shown, ServesConnection}
use Rattle.repo_store.specs.declared.forms.Plain.{Plain}
use Rattle.repo_store.specs.Stores.{Store}

-- bytes that were heard, or bytes that were said
pub data Passage : Type 0 where
  heard : (bytes : List ℕ) → Passage
  said : (bytes : List ℕ) → Passage

-- by these passages, the newest first, a channel came from one state to another, where Hears and Says tell what hearing and saying some bytes leads to
abbrev pub Passes : {C : Type 0} → (C → List ℕ → C → Type 0) → (C → List ℕ → C → Type 0) → C → List Passage → C → Type 0
Passes Hears Says old [] new = new ≡ old
Passes {C} Hears Says old (heard bytes ∷ passages) new = (mid : C) × Passes Hears Says old passages mid × Hears mid bytes new
Passes {C} Hears Says old (said bytes ∷ passages) new = (mid : C) × Passes Hears Says old passages mid × Says mid bytes new

-- all that was heard, in order
abbrev pub heard_in : List Passage → List ℕ
heard_in [] = []
heard_in (heard bytes ∷ passages) = heard_in passages ++ bytes
heard_in (said bytes ∷ passages) = heard_in passages

-- all that was said, in order
abbrev pub said_in : List Passage → List ℕ
said_in [] = []
said_in (heard bytes ∷ passages) = said_in passages
said_in (said bytes ∷ passages) = said_in passages ++ bytes

-- nothing was heard
abbrev pub AreSaid : List Passage → Type 0
AreSaid [] = ⊤
AreSaid (heard bytes ∷ passages) = ⊥
AreSaid (said bytes ∷ passages) = AreSaid passages

-- all that was heard is served: its whole requests were answered, by a run of the store machine from this store, and what was said is the frames of the replies
pub record IsServed (from : Store) (passages : List Passage) : Type 0 where
  pub past : Past
  pub unread : List ℕ
  pub all : past.bytes ≡ heard_in passages
  pub stream : IsStream requests past.bytes past.asked (Waits unread)
  pub to : Store
  pub ran : StoreRun from past.asked past.replies to
  pub told : said_in passages ≡ shown plain past.replies

-- whenever more was heard, all that had been heard before was served
abbrev pub AreAnsweredInTurn : Store → List Passage → Type 0
AreAnsweredInTurn from [] = ⊤
AreAnsweredInTurn from (heard bytes ∷ passages) = AreAnsweredInTurn from passages × IsServed from passages
AreAnsweredInTurn from (said bytes ∷ passages) = AreAnsweredInTurn from passages

-- what serving a channel gives: by passages in which requests were answered in turn, and what was said is what serving what was heard gives; where that says
-- that nothing was left, the channel was at its end
pub record ServesChannel {C : Type 0} (Hears Says : C → List ℕ → C → Type 0) (IsOver : C → Type 0) (old : C) (from : Store) (failures : ℕ) (result : Result ℕ ServeError) (new : C) (to : Store) (count : ℕ) : Type 0 where
  pub passages : List Passage
  pub passes : Passes Hears Says old passages new
  pub in_turn : AreAnsweredInTurn from passages
  pub left : List ℕ
  pub over : left ≡ [] → IsOver new
  pub serves : ServesConnection (Some (heard_in passages ++ left)) (seen from failures (Some [])) result (Some left) (seen to count (Some (said_in passages)))

-- ---- a service over a channel

-- a service does something over passages in which nothing was heard: whatever was said before them, it does that with what was said as what was written
pub record GoesOver {C : Type 0} (Hears Says : C → List ℕ → C → Type 0) (Does : Moment → Moment → Type 0) (old : C) (from : Store) (failures : ℕ) (new : C) (to : Store) (count : ℕ) : Type 0 where
  pub passages : List Passage
  pub passes : Passes Hears Says old passages new
  pub alone : AreSaid passages
  pub does : (before : List ℕ) → Does (seen from failures (Some before)) (seen to count (Some (before ++ said_in passages)))

-- what serving the next piece gives, with which all passages are these: some bytes more are taken, or none is left, or it ended with an error
abbrev pub PieceGoes : {C : Type 0} → (C → Type 0) → Store → ℕ → Past → List Passage → Result Bool ServeError → Service Plain → C → Store → ℕ → Type 0
PieceGoes IsOver from failures past all (Ok true) service new to count =
    (next : Past) × (next.bytes ≡ heard_in all) × (length past.bytes < length next.bytes) × Rests plain (seen from failures (Some [])) service next (seen to count (Some (said_in all)))
PieceGoes IsOver from failures past all (Ok false) service new to count =
    (past.bytes ≡ heard_in all) × IsOver new × Rests plain (seen from failures (Some [])) service past (seen to count (Some (said_in all)))
PieceGoes IsOver from failures past all (Err error) service new to count =
    (left : List ℕ) × (left ≡ [] → IsOver new) × ServesConnection (Some (heard_in all ++ left)) (seen from failures (Some [])) (Err error) (Some left) (seen to count (Some (said_in all)))

-- a server that rests, having served what these passages brought, takes the next piece
pub record TakesPiece {C : Type 0} (Hears Says : C → List ℕ → C → Type 0) (IsOver : C → Type 0) (from : Store) (failures : ℕ) (earlier : List Passage) (past : Past) (old : C)
    (result : Result Bool ServeError) (service : Service Plain) (new : C) (to : Store) (count : ℕ) : Type 0 where
  pub passages : List Passage
  pub passes : Passes Hears Says old passages new
  pub in_turn : AreAnsweredInTurn from earlier → AreAnsweredInTurn from (passages ++ earlier)
  pub goes : PieceGoes IsOver from failures past (passages ++ earlier) result service new to count
