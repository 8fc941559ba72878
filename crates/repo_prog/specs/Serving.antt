-- What serving connections one after another gives.
use Rattle.std.specs.Prelude.{◌≡◌, ◌↔◌, ◌∷◌, ◌*◌, ◌^◌, ◌-◌, [], ℕ, zero, suc, min, Bool, true, false, List, All, length, Option, Some, None, Result, Err, IsOk}
use Rattle.repo_hall.specs.Halls.{Hosted}
use Rattle.repo_hall.specs.Happenings.{AreInTurn, Log}
use Rattle.repo_many.specs.Connected.{IsConnection}
use Rattle.repo_many.specs.Wires.{Hears, Says}
use Rattle.repo_store.specs.Channels.{ServesChannel}
use Rattle.repo_store.specs.Stores.{Store, appending}
use Rattle.repo_store.specs.declared.serving.ServeError.{ServeError}
use Rattle.repo_prog.specs.declared.status.Status.{Status}

-- a connection that was served: its channel as it came, as it was left, and how serving it ended
pub record Visit (C : Type 0) : Type 0 where
  pub came : C
  pub left : C
  pub result : Result ℕ ServeError

-- what came of waiting for a connection: whether taking one failed before it was had; and the visit, or none if the connection that was taken couldn't be served
pub record Turn (C : Type 0) : Type 0 where
  pub refused : Bool
  pub visit : Option (Visit C)

-- how the next connection ended; one that couldn't be served, as one of which nothing could be read
abbrev pub ending : {C : Type 0} → Option (Visit C) → Result ℕ ServeError
ending (Some visit) = visit.result
ending None = Err ServeError.Read

-- the next connection was accepted, served over this store, and given back to the listener as serving left it; or it couldn't be served, and nothing was
-- done to the store
abbrev pub IsServed : {L C : Type 0} → (Accepts : L → Bool → Option C → L → Type 0) → (Leaves : L → C → L → Type 0) → (Hears Says : C → List ℕ → C → Type 0) → (IsOver : C → Type 0) → Bool → Option (Visit C) → L → Store → ℕ → L → Store → ℕ → Type 0
IsServed {L} Accepts Leaves Hears Says IsOver refused (Some visit) old from failures new to count =
    (mid : L) × Accepts old refused (Some visit.came) mid × ServesChannel Hears Says IsOver visit.came from failures visit.result visit.left to count × Leaves mid visit.left new
IsServed Accepts Leaves Hears Says IsOver refused None old from failures new to count = Accepts old refused None new × (to ≡ from) × (count ≡ failures)

-- these were served, the newest first, each accepted from the listener as the one before it left that, and served over the store that the one before it
-- left; and nothing else was done to either
abbrev pub AreServed : {L C : Type 0} → (Accepts : L → Bool → Option C → L → Type 0) → (Leaves : L → C → L → Type 0) → (Hears Says : C → List ℕ → C → Type 0) → (IsOver : C → Type 0) → List (Turn C) → L → Store → ℕ → L → Store → ℕ → Type 0
AreServed Accepts Leaves Hears Says IsOver [] old from failures new to count = (new ≡ old) × (to ≡ from) × (count ≡ failures)
AreServed {L} Accepts Leaves Hears Says IsOver (turn ∷ earlier) old from failures new to count =
    (mid : L) × (between : Store) × (k : ℕ) × AreServed Accepts Leaves Hears Says IsOver earlier old from failures mid between k × IsServed Accepts Leaves Hears Says IsOver turn.refused turn.visit mid between k new to count

-- each was taken at once and served, and ended well
abbrev pub AreWell : {C : Type 0} → List (Turn C) → Type 0
AreWell turns = All (λ turn. (turn.refused ≡ false) × IsOk (ending turn.visit)) turns

-- Just so many connections were taken and served one after another. All is done exactly if taking one never failed, and each could be served and ended well.
pub record ServesInTurn {L C : Type 0} (Accepts : L → Bool → Option C → L → Type 0) (Leaves : L → C → L → Type 0) (Hears Says : C → List ℕ → C → Type 0) (IsOver : C → Type 0) (connections : ℕ) (status : Status)
    (old : L) (from : Store) (failures : ℕ) (new : L) (to : Store) (count : ℕ) : Type 0 where
  pub turns : List (Turn C)
  pub number : length turns ≡ connections
  pub served : AreServed Accepts Leaves Hears Says IsOver turns old from failures new to count
  pub done : (status ≡ Status.Done) ↔ AreWell turns

-- What connections that were served at once asked was answered in a hall, by some log in which its guests were served in turn. Each guest is a connection,
-- over which just that went which the guest brought and was given, as far as is known what a connection has left and what it took.
abbrev pub ServesAtOnce : {T : Type 0} → (T → Option (List ℕ)) → (T → Option (List ℕ)) → Store → ℕ → Store → ℕ → Type 0
ServesAtOnce remaining contents from failures to count =
    (log : Log) × Hosted from failures log to count × AreInTurn log × ((n : ℕ) → IsConnection (Hears remaining) (Says contents) n log)

-- a store as it is served: as one that only appends, where it is to be
abbrev pub as_served : Bool → Store → Store
as_served true store = appending store
as_served false store = store

-- how many bytes so many mebibytes are, if there are any
abbrev pub memory_of : ℕ → Option ℕ
memory_of zero = None
memory_of (suc n) = Some (min (suc n * 1048576) (2 ^ 64 - 1))
