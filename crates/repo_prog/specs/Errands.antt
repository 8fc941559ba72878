-- What a client's errand gives: what its command does.
use Rattle.std.specs.Prelude.{◌≡◌, ◌≢◌, ◌⊎◌, ◌≤◌, ℕ, List, Option, Some, None, Result, Ok, Err, string_bytes}
use Rattle.clap.specs.Values.{kind_of}
use Rattle.clap.specs.declared.error.kind.ErrorKind.{ErrorKind}
use Rattle.std.specs.Io.KnownBytes.{Appends}
use Rattle.repo_name.specs.Naming.{IsInstance}
use Rattle.repo_name.specs.declared.names.Instance.{Instance}
use Rattle.repo_wire.specs.declared.messages.Ask.{Ask}
use Rattle.repo_prog.specs.declared.callers.Caller.{Caller}
use Rattle.repo_prog.specs.declared.errands.Errand.{Errand}
use Rattle.repo_prog.specs.declared.errands.LockErrand.{LockErrand}
use Rattle.repo_prog.specs.declared.status.Status.{Status}
use Rattle.repo_prog.specs.declared.words.Order.{Order}
use Rattle.repo_prog.specs.declared.words.OrderError.{OrderError}
use Rattle.repo_prog.specs.declared.words.WordsError.{WordsError}
use Rattle.repo_prune.specs.Forgetting.{IsNoPolicy}
use Rattle.repo_prog.specs.Asking.{Streams, streams, Asked, RemovesLocks, request_of}
use Rattle.repo_prog.specs.Tellings.{IsCutShort, locks_told, refresh_told}
use Rattle.repo_prog.specs.Commands.{FramesGives, IsEnd, Listens, ListensAtMost, LoopGives, PlayGives, created_line}
use Rattle.repo_dial.specs.Dialing.{Connections, Dials, HangsUp, unknown}
use Rattle.repo_dial.specs.Ends.{ConnectionEnds}
use Rattle.repo_prog.specs.Jobs.{ListObeyed, RestoreObeyed, ForgetObeyed, PruneObeyed, UpgradeObeyed, CheckObeyed, BackupObeyed}
use Rattle.repo_prog.specs.Shown.{TellsStored, TellsListed, TellsRestored, TellsForeseen, TellsForgotten, TellsPruned, TellsUpgraded, TellsChecked, unflawed}

-- what is asked about the locks over a connection, and told
abbrev pub LockGives : LockErrand → Caller → Streams → Status → Streams → Type 0
LockGives LockErrand.List caller old status new = Asked (request_of caller 1 Ask.Locks) locks_told old status new
LockGives (LockErrand.Refresh token) caller old status new = Asked (request_of caller 1 (Ask.Refresh token caller.time)) refresh_told old status new
LockGives (LockErrand.Remove all) caller old status new = RemovesLocks caller all old status new

-- over the next connection, which is given back as it was left by that, or there is none and nothing is told
abbrev pub LocksGive : LockErrand → Caller → Connections → Connections → Option (List ℕ) → Status → Option (List ℕ) → Type 0
LocksGive errand caller coming after start status contents =
    (Dials coming None after × (status ≡ Status.Failed) × (contents ≡ start))
    ⊎ ((came left : ConnectionEnds) × ((mid : Connections) × Dials coming (Some came) mid × HangsUp mid left after)
    × LockGives errand caller (streams came start) status (streams left contents))

-- what a folder holds is backed up, of which nothing is known
abbrev pub BacksUp : Caller → List ℕ → ℕ → Connections → Connections → Option (List ℕ) → Status → Option (List ℕ) → Type 0
BacksUp caller host retry coming after start status contents =
    BackupObeyed caller host None retry coming after × TellsStored caller host None retry coming after (unflawed status) start contents

-- what each errand gives, over so many connections at most after the first; by a policy that keeps nothing none is asked for
abbrev pub ErrandGives : Errand → Caller → ℕ → Connections → Connections → Option (List ℕ) → Status → Option (List ℕ) → Type 0
ErrandGives (Errand.Backup host folder) caller retry coming after start status contents = BacksUp caller host retry coming after start status contents
ErrandGives Errand.Snapshots caller retry coming after start status contents =
    ListObeyed caller retry coming after × TellsListed caller retry coming after status start contents
ErrandGives (Errand.Restore name folder) caller retry coming after start status contents =
    RestoreObeyed caller name retry coming after × TellsRestored caller name retry coming after status start contents
ErrandGives (Errand.Forget choice) caller retry coming after start status contents =
    ForgetObeyed caller choice retry coming after × TellsForgotten caller choice retry coming after status start contents
    × (IsNoPolicy choice → (status ≡ Status.Failed) × (contents ≡ start) × (after ≡ coming))
ErrandGives (Errand.Foresee choice) caller retry coming after start status contents =
    ListObeyed caller retry coming after × TellsForeseen caller choice retry coming after status start contents
    × (IsNoPolicy choice → (status ≡ Status.Failed) × (contents ≡ start) × (after ≡ coming))
ErrandGives Errand.Prune caller retry coming after start status contents =
    PruneObeyed caller retry coming after × TellsPruned caller retry coming after status start contents
ErrandGives Errand.Upgrade caller retry coming after start status contents =
    UpgradeObeyed caller retry coming after × TellsUpgraded caller retry coming after status start contents
ErrandGives Errand.Check caller retry coming after start status contents =
    CheckObeyed caller retry coming after × TellsChecked caller retry coming after status start contents
ErrandGives (Errand.Locks errand) caller retry coming after start status contents = LocksGive errand caller coming after start status contents

-- what an errand gives at an address, of whose connections nothing is known: it failed, and nothing was written; or somebody did it over them
abbrev pub AddressGives : Errand → ℕ → Option (List ℕ) → Status → Option (List ℕ) → Type 0
AddressGives errand retry start status contents = ((status ≡ Status.Failed) × (contents ≡ start))
    ⊎ ((caller : Caller) × (left : ℕ) × IsInstance caller.instance × (left ≤ retry) × ErrandGives errand caller left unknown unknown start status contents)

-- what an order gives on the output: by the input, where it reads that, and all of it is known
abbrev pub OrderGives : Order → Option (List ℕ) → Option (List ℕ) → Option (List ℕ) → Status → Option (List ℕ) → Type 0
OrderGives Order.Frames input left start status contents = (text : List ℕ) → input ≡ Some text → FramesGives text start status left contents
OrderGives Order.Play input left start status contents = (text : List ℕ) → input ≡ Some text → PlayGives text start status left contents
OrderGives Order.Loop input left start status contents = (text : List ℕ) → input ≡ Some text → LoopGives text start status left contents
OrderGives (Order.Init folder making) input left start status contents = (left ≡ input) × IsEnd status × (status ≡ Status.Done → (id : Instance) × IsInstance id × Appends start contents (created_line id))
    × (status ≡ Status.Failed → (contents ≡ start) ⊎ ((id : Instance) × IsInstance id × IsCutShort start contents (created_line id)))
OrderGives (Order.Serve folder address serving) input left start status contents = (left ≡ input) × IsEnd status × (status ≡ Status.Done → Listens (string_bytes address) start contents)
    × (status ≡ Status.Failed → ListensAtMost (string_bytes address) start contents)
OrderGives (Order.Client address errand retry idle) input left start status contents = (left ≡ input) × AddressGives errand retry start status contents

-- help that was asked for, or the version
abbrev pub IsToShow : ErrorKind → Type 0
IsToShow kind = (kind ≡ ErrorKind.DisplayHelp) ⊎ (kind ≡ ErrorKind.DisplayVersion)

-- how it ends where words make no order: what clap says of them is done where it is help or the version, and fails where that can't be written; want of memory
-- fails; all else is refused
abbrev pub RefusesWords : OrderError → Status → Type 0
RefusesWords (OrderError.Clap error) status =
    (status ≡ Status.Done → IsToShow (kind_of error)) × (status ≡ Status.Failed → IsToShow (kind_of error) ⊎ (kind_of error ≡ ErrorKind.OutOfMemory))
    × (status ≡ Status.Usage → ¬ IsToShow (kind_of error)) × (status ≢ Status.Flawed)
RefusesWords (OrderError.Words WordsError.BadArgument) status = status ≡ Status.Usage
RefusesWords (OrderError.Words WordsError.NamesAndPolicy) status = status ≡ Status.Usage
RefusesWords (OrderError.Words WordsError.Memory) status = status ≡ Status.Failed

-- help, or the version, is to be shown
abbrev pub IsShown : OrderError → Type 0
IsShown (OrderError.Clap error) = IsToShow (kind_of error)
IsShown (OrderError.Words error) = ⊥

-- what following words gives: what their order gives; or they are refused, nothing is read, and nothing is written on the output but what is to be shown
abbrev pub Follows : Result Order OrderError → Option (List ℕ) → Option (List ℕ) → Option (List ℕ) → Status → Option (List ℕ) → Type 0
Follows (Ok order) input left start status contents = OrderGives order input left start status contents
Follows (Err error) input left start status contents = RefusesWords error status × (left ≡ input) × (¬ IsShown error → contents ≡ start)
