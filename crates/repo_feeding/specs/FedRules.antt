-- What a backup that feeds itself may ask for, and how it may end, as its exchanges show.
use Rattle.std.specs.Prelude.{◌≡◌, ◌≢◌, ◌≤◌, ◌++◌, ◌∷◌, [], ⊤, true, false, List, length, Option, Some, None}
use Rattle.repo_wire.specs.declared.messages.Ask.{Ask}
use Rattle.repo_wire.specs.declared.messages.Say.{Say}
use Rattle.repo_session.specs.Askers.{Asker}
use Rattle.repo_session.specs.Feeds.{Fed}
use Rattle.repo_session.specs.Jobs.{Rule}
use Rattle.repo_session.specs.Order.{IsUnlock, May, Obeys}
use Rattle.repo_session.specs.Traces.{Trace, fed_in}
use Rattle.repo_session.specs.declared.emissions.Emission.{Emission}
use Rattle.repo_session.specs.declared.outcomes.Outcome.{Outcome}
use Rattle.repo_session.specs.declared.versions.Versions.{Versions}
use Rattle.repo_backup.specs.Items.{Place, NobodyGaveUp, MayTake, place_of}
use Rattle.repo_backup.specs.PieceRules.{PieceAllows, PieceConcludes, WantsInput}
use Rattle.repo_backup.specs.PieceStates.{piece_task}
use Rattle.repo_feeding.specs.Sources.{IsAt, spelled_in}
use Rattle.repo_feeding.specs.Unfed.{unfed}

-- where its source is known, the items that ended spell what all spell that the source was made to give
abbrev pub IsAsTold : Option (List Fed) → Place → Type 0
IsAsTold None p = ⊤
IsAsTold (Some whole) p = p.over ≡ true → p.entries ≡ spelled_in whole

-- if its source is known, the items so far lead where the first ones lead of those that it was made to give, its bytes in any parts
abbrev pub IsOnTheWay : Option (List Fed) → Place → Type 0
IsOnTheWay None p = ⊤
IsOnTheWay (Some whole) p = (coming : List Fed) × IsAt whole p coming

-- each of these items, the newest first, which were fed on an exchange after others, came where a backup that is fed may want input, before the end of its lock,
-- and might be taken there
abbrev pub AreWelcomeOn : List Fed → Ask → Say → List Emission → Trace → Type 0
AreWelcomeOn [] ask say emitted es = ⊤
AreWelcomeOn (item ∷ items) ask say emitted es =
    ¬ IsUnlock ask × WantsInput (record { ask = ask; say = say; emitted = emitted; fed = items } ∷ es) × MayTake (place_of (items ++ fed_in es)) item × AreWelcomeOn items ask say emitted es

-- so did each item that was fed
abbrev pub AreWelcome : Trace → Type 0
AreWelcome [] = ⊤
AreWelcome (e ∷ es) = AreWelcomeOn e.fed e.ask e.say e.emitted es × AreWelcome es

-- nothing was fed on the first two exchanges, those of the ticket and of the lock
abbrev pub IsFedLate : Trace → Type 0
IsFedLate [] = ⊤
IsFedLate (e ∷ es) = (e.fed ≢ [] → 2 ≤ length es) × IsFedLate es

-- items stand in their places in these exchanges, so that a backup which is fed them there obeys its rule, and each was welcome, after the lock was granted; and they are those of its
-- source: so far, unless somebody gave up, and whole, once they ended
pub record IsFedSo (who : Asker) (whole : Option (List Fed)) (es fs : Trace) : Type 0 where
  pub same : unfed fs ≡ es
  pub obeys : Obeys (piece_task who) PieceAllows (λ before e. ⊥) fs
  pub welcome : AreWelcome fs
  pub late : IsFedLate fs
  pub so_far : NobodyGaveUp (fed_in fs) → IsOnTheWay whole (place_of (fed_in fs))
  pub told : IsAsTold whole (place_of (fed_in fs))

-- it may ask for what a backup may that was fed some items, as its exchanges show
abbrev pub FedAllows : Asker → Option (List Fed) → Trace → Ask → Type 0
FedAllows who whole es ask = (fs : Trace) × IsFedSo who whole es fs × May (piece_task who) fs ask × PieceAllows fs ask

-- and it may end as such a backup may
abbrev pub FedConcludes : Asker → Option (List Fed) → Trace → Outcome → Type 0
FedConcludes who whole es outcome = (fs : Trace) × IsFedSo who whole es fs × PieceConcludes fs outcome

-- its rule: it gives nothing out, and never wants input
abbrev pub fed_rule : Asker → Option (List Fed) → Rule
fed_rule who whole = record { exclusive = false; snapshot = None; versions = Versions.Both; notes = false; calm = ⊤; allows = FedAllows who whole; gives = λ es e. ⊥; concludes = FedConcludes who whole; wanting = λ es. ⊥ }
