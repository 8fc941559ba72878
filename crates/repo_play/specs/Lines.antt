-- What each line of a script does, and what it prints.
use Rattle.std.specs.Prelude.{◌≡◌, ◌⊎◌, ◌≤◌, ◌^◌, ◌++◌, ◌∷◌, [], ⊤, ℕ, Bool, true, List, codes, decimal, Option, Some, None, option_map}
use Rattle.std.specs.Option.{option_and_then}
use Rattle.repo_name.specs.Rows.{IsHost}
use Rattle.repo_name.specs.declared.names.Name.{Name}
use Rattle.repo_tree.specs.ConfigText.{config_text}
use Rattle.repo_tree.specs.declared.configs.Config.{Config}
use Rattle.repo_tree.specs.declared.entries.Entry.{Entry}
use Rattle.repo_wire.specs.declared.messages.Ask.{Ask}
use Rattle.repo_store.specs.Stores.{Store}
use Rattle.repo_session.specs.declared.outcomes.Outcome.{Outcome}
use Rattle.repo_prune.specs.declared.choices.Choice.{Choice}
use Rattle.repo_world.specs.Events.{Happens, MayAnybodySend}
use Rattle.repo_world.specs.Laws.{IsEmpty}
use Rattle.repo_world.specs.Reports.{IsReport}
use Rattle.repo_world.specs.World.{World, beginning, client, instance_of}
use Rattle.repo_world.specs.declared.events.Applied.{Applied}
use Rattle.repo_world.specs.declared.events.Event.{Event}
use Rattle.repo_world.specs.declared.jobs.Job.{Job}
use Rattle.repo_world.specs.declared.jobs.Refusal.{Refusal}
use Rattle.repo_script.specs.declared.lines.Line.{Line}
use Rattle.repo_script.specs.declared.lines.Start.{Start}
use Rattle.repo_play.specs.declared.grammars.Grammar.{Grammar}
use Rattle.repo_play.specs.Feeding.{IsFedTold}
use Rattle.repo_play.specs.Steps.{AllHappen, HasClient, MayStepClient, StepsClientOn, Goes, IsAnswered, IsLate, asks, deliveries, stranger}

-- where a script stands: its world, and the entries for the next backup
pub record State : Type 0 where
  pub world : World
  pub entries : List Entry

-- ---- the beginning

-- the config of a script's store
abbrev pub script_config : Config
script_config = record { version = 1; id = instance_of 0; params = record { min = 64; max = 128; bits = 6 }; target = 1024 }

-- a store was just made with it, without objects, before any ticket; it only appends, or doesn't; and there are no clients, and no entries
pub record IsFreshScript (appends : Bool) (s : State) : Type 0 where
  pub store : Store
  pub empty : IsEmpty store
  pub config : store.config ≡ Some (config_text script_config)
  pub mode : store.append_only ≡ appends
  pub world : s.world ≡ beginning store
  pub entries : s.entries ≡ []

-- ---- which lines are understood

-- all; or, where messages are carried, entries, starts, finishes and reports alone
abbrev pub MayStand : Grammar → Line → Type 0
MayStand Grammar.Whole line = ⊤
MayStand Grammar.Carried (Line.Entry entry) = ⊤
MayStand Grammar.Carried (Line.Start start old) = ⊤
MayStand Grammar.Carried (Line.Finish k) = ⊤
MayStand Grammar.Carried Line.Report = ⊤
MayStand Grammar.Carried _ = ⊥

-- ---- starts

-- the snapshot of an outcome, if one is stored
abbrev pub stored_in : Option Outcome → Option Name
stored_in (Some (Outcome.Stored name blobs bytes)) = Some name
stored_in _ = None

-- the snapshot that a client reported as stored
abbrev pub stored_by : World → ℕ → Option Name
stored_by w k = stored_in (client w k).outcome

-- the snapshots that all these clients reported
abbrev pub all_stored : World → List ℕ → Option (List Name)
all_stored w [] = Some []
all_stored w (k ∷ ks) = option_and_then (λ name. option_map (λ names. name ∷ names) (all_stored w ks)) (stored_by w k)

-- the job of a client that starts so
abbrev pub IsJob : Start → State → Job → Type 0
IsJob (Start.Backup host time) s job = job ≡ Job.Backup s.entries
IsJob (Start.Pieces host time) s job = job ≡ Job.Pieces
IsJob (Start.Restore k) s job = (name : Name) × (stored_by s.world k ≡ Some name) × (job ≡ Job.Restore name)
IsJob Start.List s job = job ≡ Job.List
IsJob Start.Prune s job = job ≡ Job.Prune
IsJob Start.Check s job = job ≡ Job.Check
IsJob Start.Upgrade s job = job ≡ Job.Upgrade
IsJob (Start.Forget ks) s job = (names : List Name) × (all_stored s.world ks ≡ Some names) × (job ≡ Job.Forget (Choice.Names names))
IsJob (Start.Keep policy) s job = job ≡ Job.Forget (Choice.Keep policy)

-- its host and its time; all but backups have one host and one time
abbrev pub host_of : Start → List ℕ
host_of (Start.Backup host time) = host
host_of (Start.Pieces host time) = host
host_of _ = codes "play"

abbrev pub time_of : Start → ℕ
time_of (Start.Backup host time) = time
time_of (Start.Pieces host time) = time
time_of _ = 0

-- the entries that are left after it: a backup that is handed them uses them up
abbrev pub left_by : Start → List Entry → List Entry
left_by (Start.Backup host time) entries = []
left_by _ entries = entries

-- a reason's number: a backup has four, a forget one
abbrev pub refusal_number : Refusal → ℕ
refusal_number Refusal.BadPath = 1
refusal_number Refusal.Order = 2
refusal_number Refusal.TooDeep = 3
refusal_number Refusal.TooLarge = 4
refusal_number Refusal.NoPolicy = 1

-- what is printed of a start: where the client isn't begun, the reason's number
abbrev pub start_line : Applied → List ℕ
start_line (Applied.Refused refusal) = codes "start refused " ++ (decimal (refusal_number refusal) ++ codes "\n")
start_line _ = []

-- a client, old or not, starts, or isn't begun
pub record DoesStart (start : Start) (old : Bool) (s : State) (text : List ℕ) (t : State) : Type 0 where
  pub job : Job
  pub is_job : IsJob start s job
  pub applied : Applied
  pub happens : Happens ⊥ s.world (Event.Start job (host_of start) (time_of start) old) applied t.world
  pub told : text ≡ start_line applied
  pub left : t.entries ≡ left_by start s.entries

-- ---- lines

-- what a line does to a world, if it prints nothing and is about no entries
abbrev pub MovesWorld : Line → World → World → Type 0
MovesWorld (Line.Step k) w v = HasClient w k × MayStepClient None w k v
MovesWorld (Line.Finish k) w v = HasClient w k × Goes None w k v
MovesWorld (Line.Until k sort) w v = HasClient w k × Goes (Some sort) w k v
MovesWorld (Line.Fault k fail) w v = HasClient w k × MayStepClient (Some fail) w k v
MovesWorld (Line.Deliver i) w v = AllHappen w (Event.Deliver i ∷ []) v
MovesWorld (Line.Unlock token) w v = AllHappen w (Event.Ask (stranger (Ask.Unlock token)) ∷ []) v
MovesWorld (Line.Crash k) w v = HasClient w k × AllHappen w (Event.Crash k ∷ []) v
MovesWorld Line.Restart w v = AllHappen w (Event.Restart ∷ []) v
MovesWorld Line.Replay w v = AllHappen w (deliveries 0 w.messages) v
MovesWorld _ w v = ⊥

-- it makes no sense here: it names a client that isn't there, or isn't such a line
abbrev pub CannotMove : Line → World → Type 0
CannotMove (Line.Step k) w = ¬ HasClient w k
CannotMove (Line.Finish k) w = ¬ HasClient w k
CannotMove (Line.Until k sort) w = ¬ HasClient w k
CannotMove (Line.Fault k fail) w = ¬ HasClient w k
CannotMove (Line.Crash k) w = ¬ HasClient w k
CannotMove (Line.Deliver i) w = ⊥
CannotMove (Line.Unlock token) w = ⊥
CannotMove Line.Restart w = ⊥
CannotMove Line.Replay w = ⊥
CannotMove _ w = ⊤

-- from s a line leads to t, and prints this
abbrev pub Does : Line → State → List ℕ → State → Type 0
Does (Line.Entry entry) s text t = (text ≡ []) × (t ≡ record { world = s.world; entries = s.entries ++ entry ∷ [] })
Does (Line.Start start old) s text t = DoesStart start old s text t
Does (Line.Late k) s text t = IsLate s.world k text t.world × (t.entries ≡ s.entries)
Does (Line.Ask question) s text t = IsAnswered s.world question text t.world × (t.entries ≡ s.entries)
Does (Line.Feed k item) s text t = IsFedTold s.world k item text t.world × (t.entries ≡ s.entries)
Does Line.Report s text t = IsReport s.world text × (t ≡ s)
Does line s text t = (text ≡ []) × MovesWorld line s.world t.world × (t.entries ≡ s.entries)

-- A line makes no sense here: it names a client that isn't there, or one that reported no snapshot; or a host that hasn't 1 to 255 bytes; or nobody may ask so. (What says that the
-- store only appends is no line of this sort: it makes sense as a script's first line alone.)
abbrev pub IsNonsense : Line → State → Type 0
IsNonsense (Line.Entry entry) s = ⊥
IsNonsense (Line.Start start old) s = ((job : Job) → ¬ IsJob start s job) ⊎ (¬ IsHost (host_of start))
IsNonsense (Line.Late k) s = ¬ HasClient s.world k
IsNonsense (Line.Ask question) s = ¬ MayAnybodySend (stranger (asks question))
IsNonsense (Line.Feed k item) s = ¬ HasClient s.world k
IsNonsense Line.Report s = ⊥
IsNonsense line s = CannotMove line s.world

-- it takes more steps than are made for one line
abbrev pub GoesFar : Line → World → Type 0
GoesFar (Line.Finish k) w = (n : ℕ) × (v : World) × (2 ^ 32 ≤ n) × StepsClientOn None n w k v
GoesFar (Line.Until k sort) w = (n : ℕ) × (v : World) × (2 ^ 32 ≤ n) × StepsClientOn (Some sort) n w k v
GoesFar _ w = ⊥
