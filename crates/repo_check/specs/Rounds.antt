-- What a round over the objects of one kind knows of the trace.
use Rattle.std.specs.Prelude.{◌≡◌, ◌≤◌, ◌⊎◌, ◌++◌, ◌∷◌, [], ⊤, ℕ, true, false, List, length, map, take, slice_get, Option, Some, Contains}
use Rattle.repo_name.specs.declared.kinds.Kind.{Kind}
use Rattle.repo_name.specs.declared.names.Name.{Name}
use Rattle.repo_name.specs.declared.tokens.Token.{Token}
use Rattle.repo_wire.specs.declared.messages.Ask.{Ask}
use Rattle.repo_wire.specs.declared.messages.Say.{Say}
use Rattle.repo_store.specs.Pages.{Above, Has}
use Rattle.repo_session.specs.Versions.{upto}
use Rattle.repo_session.specs.Ends.{IsEndBy, MayFollow}
use Rattle.repo_session.specs.Jobs.{HeedsOn}
use Rattle.repo_session.specs.Order.{Task, IsWorking, May}
use Rattle.repo_session.specs.Rolls.{IsPaged, IsRolled}
use Rattle.repo_session.specs.declared.jobs.Step.{Step}
use Rattle.repo_session.specs.declared.outcomes.End.{End}
use Rattle.repo_session.specs.declared.outcomes.Outcome.{Outcome}
use Rattle.repo_session.specs.declared.parts.Came.{Came}
use Rattle.repo_session.specs.declared.versions.Versions.{Versions}
use Rattle.repo_session.specs.Traces.{Each, Exchange, Exchanged, Trace, WasAsked, silent}
use Rattle.repo_reach.specs.declared.roots.Root.{Root}
use Rattle.repo_check.specs.Answers.{Answer, IsAnswer}
use Rattle.repo_check.specs.Arrivals.{IsFaulty, IsRootOf, TellsNothing}
use Rattle.repo_check.specs.Checking.{CameFor}
use Rattle.repo_check.specs.declared.rounds.Note.{Note}
use Rattle.repo_check.specs.declared.rounds.Round.{Round}

-- the kind of a round, the names that were listed, how many of their objects the list counts as read, and what was noted of the first of them
pub record RoundView (T : Type 0) : Type 0 where
  pub kind : Kind
  pub names : List Name
  pub read : ℕ
  pub notes : List (Note T)

-- the code's own
abbrev pub round_of : {T : Type 0} → Round T → RoundView T
round_of round = record { kind = round.roll.kind; names = round.roll.names.items; read = round.roll.read; notes = round.notes.items }

-- ---- what comes of a reply

-- the outcome is an end of a check that this exchange caused: by a page that makes no sense, or by what is of a version that isn't known, and by nothing else
abbrev pub EndsCheck : ℕ → Exchange → Outcome → Type 0
EndsCheck known e outcome = IsEndBy known e outcome × ((outcome ≡ Outcome.Ended End.BadReply) ⊎ (outcome ≡ Outcome.Ended End.Version))

-- what a check does on an exchange by a part that knows this: it asks for more, which the order allows; it ends by that; or it passes on a reply that tells nothing
abbrev pub CheckSteps : Task → (Ask → Trace → Type 0) → Exchange → Trace → Step → Type 0
CheckSteps task Knows e es (Step.Ask ask) = Knows ask (e ∷ es) × May task (e ∷ es) ask
CheckSteps task Knows e es (Step.Finish outcome) = EndsCheck (upto task.versions) e outcome
CheckSteps task Knows e es Step.Want = ⊥
CheckSteps task Knows e es Step.Away = TellsNothing e.ask e.say

-- what comes of it: all came, and this holds; or such a step
abbrev pub CheckComes : Task → (Ask → Trace → Type 0) → (Trace → Type 0) → Came (Unit {0}) → Exchange → Trace → Type 0
CheckComes task Knows Holds (Came.All _) e es = Holds (e ∷ es)
CheckComes task Knows Holds (Came.Step step) e es = CheckSteps task Knows e es step

-- where a check ends at once on the reply, the step ends it by that; where all came, none does
abbrev pub HeedsCame : ℕ → Ask → Say → Came (Unit {0}) → Type 0
HeedsCame known ask say (Came.All _) = MayFollow known true (silent ask say)
HeedsCame known ask say (Came.Step step) = HeedsOn known true (silent ask say) step

-- ---- names

-- each page of the kind that was asked for was one behind which one of these names comes
abbrev pub ArePast : Kind → List Name → Trace → Type 0
ArePast k names es = (after : Option Name) → WasAsked es (Ask.List k after) → (n : Name) × Has names n × Above after n

-- nothing of the kind was asked for as a page, listed or received
pub record IsUntouched (k : Kind) (es : Trace) : Type 0 where
  pub rolled : IsRolled k [] 0 false es
  pub past : ArePast k [] es

-- its names come page by page, and nothing was noted
pub record RoundIsListing {T : Type 0} (k : Kind) (round : RoundView T) (es : Trace) : Type 0 where
  pub of_kind : round.kind ≡ k
  pub none_read : round.read ≡ 0
  pub rolled : IsRolled k round.names 0 false es
  pub past : ArePast k round.names es
  pub none : round.notes ≡ []

-- they all came, and the object of this name is the next one
pub record IsGetting {T : Type 0} (k : Kind) (round : RoundView T) (n : Name) (es : Trace) : Type 0 where
  pub of_kind : round.kind ≡ k
  pub paged : IsPaged k round.names true es
  pub next : slice_get round.names (length round.notes) ≡ Some n

-- each object was noted
pub record IsWholeRound {T : Type 0} (k : Kind) (round : RoundView T) (es : Trace) : Type 0 where
  pub of_kind : round.kind ≡ k
  pub paged : IsPaged k round.names true es
  pub all : length round.names ≤ length round.notes

-- a round in which nothing was listed
pub record IsFreshRound {T : Type 0} (k : Kind) (round : RoundView T) : Type 0 where
  pub of_kind : round.kind ≡ k
  pub no_names : round.names ≡ []
  pub none_read : round.read ≡ 0
  pub no_notes : round.notes ≡ []

-- ---- turns

-- the next object is asked for, or all were noted
abbrev pub AsksNext : {T : Type 0} → RoundView T → Came (Unit {0}) → Type 0
AsksNext round (Came.All _) = length round.names ≤ length round.notes
AsksNext round (Came.Step step) = (n : Name) × (step ≡ Step.Ask (Ask.Get round.kind n)) × (slice_get round.names (length round.notes) ≡ Some n)

-- what is known where this is pending
abbrev pub KnowsRound : {T : Type 0} → Kind → RoundView T → Ask → Trace → Type 0
KnowsRound k round (Ask.List j after) es = (j ≡ k) × RoundIsListing k round es
KnowsRound k round (Ask.Get j n) es = (j ≡ k) × IsGetting k round n es
KnowsRound k round _ es = ⊥

-- what comes next after an exchange
abbrev pub TurnsOn : {T : Type 0} → Task → Kind → RoundView T → Came (Unit {0}) → Exchange → Trace → Type 0
TurnsOn task k round turn e es = CheckComes task (KnowsRound k round) (IsWholeRound k round) turn e es

-- where the round goes on, or is over, this holds besides
abbrev pub TurnsWith : {T : Type 0} → Task → Kind → RoundView T → (Trace → Type 0) → Came (Unit {0}) → Exchange → Trace → Type 0
TurnsWith task k round Holds turn e es = CheckComes task (λ ask fs. KnowsRound k round ask fs × Holds fs) (λ fs. IsWholeRound k round fs × Holds fs) turn e es

-- what a page comes to, after each trace at whose end it was asked for
abbrev pub PagesRound : {T : Type 0} → RoundView T → Say → Came (Unit {0}) → RoundView T → Type 0
PagesRound old say turn new = (task : Task) (token : Token) (k : Kind) (after : Option Name) (es : Trace) → IsWorking task token (silent (Ask.List k after) say ∷ es) → May task es (Ask.List k after) → RoundIsListing k old es
    → TurnsOn task k new turn (silent (Ask.List k after) say) es

-- ---- notes

-- those of two lists that stand at one place belong together
abbrev pub Match : {A B : Type 0} → (A → B → Type 0) → List A → List B → Type 0
Match R [] [] = ⊤
Match R (x ∷ xs) (y ∷ ys) = R x y × Match R xs ys
Match R _ _ = ⊥

-- the note says what the answer is
abbrev pub IsNoteOf : {T : Type 0} → Kind → (Answer → T → Type 0) → Answer → Note T → Type 0
IsNoteOf k Gives a (Note.Well x) = Gives a x
IsNoteOf k Gives a (Note.Fault what) = IsFaulty k a what

-- the objects of the first names came so, nothing else was said of any, and these are the notes of them
pub record AreNoted {T : Type 0} (k : Kind) (Gives : Answer → T → Type 0) (names : List Name) (notes : List (Note T)) (es : Trace) : Type 0 where
  pub answers : List Answer
  pub named : map (λ (a : Answer). a.name) answers ≡ take (length notes) names
  pub got : Each (λ (a : Answer). CameFor es k a.name a.bytes) answers
  pub only : (n : Name) (say : Say) → Exchanged es (Ask.Get k n) say → (a : Answer) × Contains answers a × IsAnswer n say a
  pub noted : Match (IsNoteOf k Gives) answers notes

-- what a reply to the request for the next object comes to, after each trace at whose end it was pending
abbrev pub TakesObject : {T : Type 0} → Kind → (Answer → T → Type 0) → RoundView T → Name → Say → Came (Unit {0}) → RoundView T → Type 0
TakesObject k Gives old n say turn new = (task : Task) (token : Token) (es : Trace) → IsWorking task token (silent (Ask.Get k n) say ∷ es) → IsGetting k old n es → AreNoted k Gives old.names old.notes es
    → TurnsWith task k new (AreNoted k Gives new.names new.notes) turn (silent (Ask.Get k n) say) es

-- so what one to the request for the next snapshot does, after those of who knows these versions
abbrev pub TakesSnapshot : Versions → RoundView Root → Name → Say → Came (Unit {0}) → RoundView Root → Type 0
TakesSnapshot versions old n say turn new = (task : Task) (token : Token) (es : Trace) → task.versions ≡ versions → IsWorking task token (silent (Ask.Get Kind.Snapshot n) say ∷ es) → IsGetting Kind.Snapshot old n es → AreNoted Kind.Snapshot IsRootOf old.names old.notes es
    → TurnsWith task Kind.Snapshot new (AreNoted Kind.Snapshot IsRootOf new.names new.notes) turn (silent (Ask.Get Kind.Snapshot n) say) es

-- there is one note more
pub record HasOneMore {T : Type 0} (old new : RoundView T) : Type 0 where
  pub kind : new.kind ≡ old.kind
  pub names : new.names ≡ old.names
  pub read : new.read ≡ old.read
  pub note : Note T
  pub notes : new.notes ≡ old.notes ++ note ∷ []
