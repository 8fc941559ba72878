-- How a hall stands after what happened.
use Rattle.std.specs.Prelude.{◌≡◌, ◌≢◌, ◌⊎◌, ◌≤◌, ◌<◌, ◌++◌, ◌∷◌, ℕ, Bool, true, false, List, Some, Result, Ok, Err, slice_get}
use Rattle.repo_wire.specs.declared.messages.Reply.{Reply}
use Rattle.repo_wire.specs.declared.messages.Request.{Request}
use Rattle.repo_wire.specs.Messages.{requests}
use Rattle.repo_wire.specs.Stream.{IsStream, Fails}
use Rattle.repo_store.specs.declared.forms.ServiceError.{ServiceError}
use Rattle.repo_store.specs.Runs.{StoreRun}
use Rattle.repo_store.specs.Serving.{HaveCause}
use Rattle.repo_store.specs.Stores.{Store}
use Rattle.repo_hall.specs.declared.guests.Guest.{Guest}
use Rattle.repo_hall.specs.declared.halls.Hall.{Hall}
use Rattle.repo_hall.specs.Guests.{IsGuest}
use Rattle.repo_hall.specs.Happenings.{Happening, Answered, AreInTurn, Log, IsStay, all_asked, all_replies, no_stay, stay}

-- what was answered to all guests, in that order, is one run of the store machine, and a failure of the device that a reply tells was counted; and of
-- every guest, of those that left too, what happened to it is a stay
pub record Hosted (from : Store) (failed : ℕ) (log : Log) (to : Store) (failing : ℕ) : Type 0 where
  pub run : StoreRun from (all_asked log) (all_replies log) to
  pub cause : HaveCause failed (all_replies log) failing
  pub stays : (k : ℕ) → IsStay (stay k log)

-- a table of guests to which this happened: each has a number of its own, and to those of later numbers nothing happened
pub record Housed (guests : List Guest) (entered : ℕ) (log : Log) : Type 0 where
  pub each : (j : ℕ) (g : Guest) → slice_get guests j ≡ Some g → IsGuest (stay g.number log) g
  pub apart : (i j : ℕ) (g h : Guest) → slice_get guests i ≡ Some g → slice_get guests j ≡ Some h → g.number ≡ h.number → i ≡ j
  pub known : (j : ℕ) (g : Guest) → slice_get guests j ≡ Some g → g.number < entered
  pub later : (k : ℕ) → entered ≤ k → stay k log ≡ no_stay

-- a hall after this happened in it, and a store
pub record Stands (from : Store) (failed : ℕ) (guests : List Guest) (entered : ℕ) (log : Log) (to : Store) (failing : ℕ) : Type 0 where
  pub hosted : Hosted from failed log to failing
  pub housed : Housed guests entered log

-- ---- what a call does

-- the guest at this place was answered one request more
abbrev pub IsOneMore : List Guest → ℕ → Log → Log → Type 0
IsOneMore guests place log next = (g : Guest) × (slice_get guests place ≡ Some g) × (request : Request) × (reply : Reply) × (next ≡ Answered g.number request reply ∷ log)

-- what answering at a place adds to what happened, by what is returned
abbrev pub AnswerAdds : List Guest → ℕ → Result Bool ServiceError → Log → Log → Type 0
AnswerAdds guests place (Ok true) log next = IsOneMore guests place log next
AnswerAdds guests place (Ok false) log next = next ≡ log
-- what the guest brought has this fault behind its requests
AnswerAdds guests place (Err (ServiceError.Wire fault)) log next = (next ≡ log) × ((g : Guest) × (slice_get guests place ≡ Some g)
    × IsStream requests (stay g.number log).bytes (stay g.number log).asked (Fails fault))
AnswerAdds guests place (Err ServiceError.Memory) log next = (next ≡ log) ⊎ IsOneMore guests place log next
AnswerAdds guests place (Err ServiceError.Write) log next = ⊥
AnswerAdds guests place (Err ServiceError.Limit) log next = ⊥

-- from wherever a hall stands, answering at a place leads on
abbrev pub AnswersAt : Hall → ℕ → Store → ℕ → Result Bool ServiceError → Hall → Store → ℕ → Type 0
AnswersAt old place mid k result new to l = (from : Store) (failed : ℕ) (log : Log) → Stands from failed old.guests.items old.entered log mid k
    → (next : Log) × AnswerAdds old.guests.items place result log next × Stands from failed new.guests.items new.entered next to l

-- the guests at all other places are as they were
abbrev pub LeavesOthers : List Guest → ℕ → List Guest → Type 0
LeavesOthers old place new = (j : ℕ) → j ≢ place → slice_get new j ≡ slice_get old j

-- the guest at a place is the one that was there
abbrev pub StaysGuest : List Guest → ℕ → List Guest → Type 0
StaysGuest old place new = (g h : Guest) → slice_get old place ≡ Some g → slice_get new place ≡ Some h → h.number ≡ g.number

-- at one place is the guest that was there, and at all others they are as they were
abbrev pub StaysAt : Hall → ℕ → Hall → Type 0
StaysAt old place new = LeavesOthers old.guests.items place new.guests.items × StaysGuest old.guests.items place new.guests.items

-- from wherever a hall stands, this happens to the guest at a place, and to the store nothing
abbrev pub HappensAt : (ℕ → Happening) → Hall → ℕ → Hall → Type 0
HappensAt what old place new = (from to : Store) (failed failing : ℕ) (log : Log) → Stands from failed old.guests.items old.entered log to failing
    → (g : Guest) × (slice_get old.guests.items place ≡ Some g) × Stands from failed new.guests.items new.entered (what g.number ∷ log) to failing

-- from wherever a hall stands, nothing happens to any guest that came
abbrev pub NothingHappens : Hall → Hall → Type 0
NothingHappens old new = (from to : Store) (failed failing : ℕ) (log : Log) → Stands from failed old.guests.items old.entered log to failing
    → Stands from failed new.guests.items new.entered log to failing

-- from wherever a hall stands after happenings in turn, more happens, all of it in turn, and it stands after that
abbrev pub HallLeads : Hall → Store → ℕ → Hall → Store → ℕ → Type 0
HallLeads old mid k new to l = (from : Store) (failed : ℕ) (log : Log) → Stands from failed old.guests.items old.entered log mid k → AreInTurn log
    → (more : Log) × Stands from failed new.guests.items new.entered (more ++ log) to l × AreInTurn (more ++ log)

-- the same, whatever the store, which stays as it is
abbrev pub HallLeavesStore : Hall → Hall → Type 0
HallLeavesStore old new = (mid : Store) (k : ℕ) → HallLeads old mid k new mid k
