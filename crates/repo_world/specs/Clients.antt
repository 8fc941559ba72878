-- The clients of a store: what each is for, and what it is at a moment.
use Rattle.std.specs.Prelude.{◌≡◌, ⊤, ℕ, Bool, true, false, List, Option, Some, None}
use Rattle.repo_name.specs.declared.names.Name.{Name}
use Rattle.repo_name.specs.declared.kinds.BlobKind.{BlobKind}
use Rattle.repo_pack.specs.PackLayout.{item_of}
use Rattle.repo_wire.specs.declared.messages.Request.{Request}
use Rattle.repo_tree.specs.declared.entries.Entry.{Entry}
use Rattle.repo_session.specs.declared.outcomes.Outcome.{Outcome}
use Rattle.repo_session.specs.Askers.{Asker}
use Rattle.repo_session.specs.Order.{Task}
use Rattle.repo_session.specs.Traces.{Trace, fed_in}
use Rattle.repo_backup.specs.declared.faults.BackupError.{BackupError}
use Rattle.repo_backup.specs.Handed.{AreHanded, EntriesFault}
use Rattle.repo_backup.specs.Items.{spelled_by}
use Rattle.repo_backup.specs.Laws.{IsMadeOf}
use Rattle.repo_backup.specs.PieceRules.{IsMadeSoFar}
use Rattle.repo_prune.specs.Forgetting.{IsNoPolicy}
use Rattle.repo_world.specs.declared.jobs.Job.{Job}
use Rattle.repo_world.specs.declared.jobs.Refusal.{Refusal}

-- ---- what is said of each job. (This is the place where one more sort of job joins: with the lock that it wants, and with what it is handed.)

-- it wants the lock alone
abbrev pub wants_alone : Job → Bool
wants_alone (Job.Forget choice) = true
wants_alone Job.Prune = true
wants_alone Job.Check = true
wants_alone Job.Upgrade = true
wants_alone _ = false

-- the snapshot that it may get without having listed it
abbrev pub wanted_by : Job → Option Name
wanted_by (Job.Restore snapshot) = Some snapshot
wanted_by _ = None

-- its task, for who asks
abbrev pub task_of : Job → Asker → Task
task_of job who = record { who = who; exclusive = wants_alone job; snapshot = wanted_by job; versions = who.versions; notes = false }

-- the entries that it was handed, if it is a backup: at its start, or as the items spell them that it was fed since
abbrev pub handed_by : Job → Trace → Option (List Entry)
handed_by (Job.Backup entries) es = Some entries
handed_by Job.Pieces es = Some (spelled_by (fed_in es))
handed_by _ es = None

-- the bytes of a blob that it made of what it was handed, by the config that it read
abbrev pub MadeOf : Job → Trace → List ℕ → Type 0
MadeOf (Job.Backup entries) es x = IsMadeOf entries es x
MadeOf Job.Pieces es x = (kind : BlobKind) × IsMadeSoFar es (item_of kind x)
MadeOf _ es x = ⊥

-- it is begun with what it is handed: entries that may be backed up; a policy that keeps something
abbrev pub Accepts : Job → Type 0
Accepts (Job.Backup entries) = AreHanded entries
Accepts (Job.Forget choice) = ¬ IsNoPolicy choice
Accepts _ = ⊤

-- the fault of entries for which a backup isn't begun
abbrev pub fault_of : Refusal → Option BackupError
fault_of Refusal.BadPath = Some BackupError.BadPath
fault_of Refusal.Order = Some BackupError.Order
fault_of Refusal.TooDeep = Some BackupError.TooDeep
fault_of Refusal.TooLarge = Some BackupError.TooLarge
fault_of Refusal.NoPolicy = None

-- it isn't begun, for this reason: the first fault of the entries; or that the policy keeps nothing
abbrev pub Refuses : Job → Refusal → Type 0
Refuses (Job.Backup entries) refusal = (e : BackupError) × (fault_of refusal ≡ Some e) × EntriesFault entries e
Refuses (Job.Forget choice) refusal = IsNoPolicy choice × (refusal ≡ Refusal.NoPolicy)
Refuses _ refusal = ⊥

-- ---- clients, whatever the job

-- a client: its job, who asks, all its exchanges, what is pending, how it ended, and whether it stopped for good
pub record Client : Type 0 where
  pub job : Job
  pub who : Asker
  pub trace : Trace
  pub next : Option Request
  pub outcome : Option Outcome
  pub crashed : Bool

-- it waits: nothing is pending, and it hasn't ended
abbrev pub IsWaiting : Client → Type 0
IsWaiting c = (c.next ≡ None) × (c.outcome ≡ None)

-- it runs, and is a backup that is fed
abbrev pub MayBeFed : Client → Type 0
MayBeFed c = (c.crashed ≡ false) × (c.job ≡ Job.Pieces)
