use Rattle.std.specs.Prelude.{◌≡◌, ◌≢◌, ◌⊎◌, ◌<◌, ◌≤◌, ◌++◌, ◌∷◌, [], ⊤, ℕ, List, Option, Some, None, Ok, Err, codes, decimal, string_bytes}
use Rattle.std.specs.Duration.{as_nanos}
use Rattle.std.specs.declared.time.Duration.{Duration}
use Rattle.std.specs.Io.KnownBytes.{Appends}
use Rattle.hex.specs.Hex.{encode_lower}
use Rattle.repo_name.specs.declared.names.Instance.{Instance}
use Rattle.repo_store.specs.declared.making.InitError.{InitError}
use Rattle.repo_store.specs.Making.{Makes}
use Rattle.repo_store.specs.Output.{AppendsPart}
use Rattle.repo_store.specs.Stores.{Store}
use Rattle.repo_tree.specs.declared.configs.Config.{Config}
use Rattle.repo_tree.specs.ConfigText.{IsTarget, config_text}
use Rattle.repo_tree.specs.Versions.{greatest_version, IsKnownTo}
use Rattle.repo_name.specs.Rows.{IsHost}
use Rattle.repo_prune.specs.declared.choices.Choice.{Choice}
use Rattle.repo_prune.specs.declared.keeping.Policy.{Policy}
use Rattle.repo_play.specs.Plays.{Plays, uncarried}
use Rattle.repo_play.specs.declared.faults.LoopError.{LoopError}
use Rattle.repo_play.specs.declared.faults.PlayError.{PlayError}
use Rattle.repo_play.specs.declared.grammars.Grammar.{Grammar}
use Rattle.repo_prog.specs.declared.errands.Errand.{Errand}
use Rattle.repo_prog.specs.declared.errands.LockErrand.{LockErrand}
use Rattle.repo_prog.specs.declared.errors.FramesError.{FramesError}
use Rattle.repo_prog.specs.declared.serve.Serving.{Serving}
use Rattle.repo_prog.specs.declared.status.Status.{Status}
use Rattle.repo_prog.specs.declared.words.Making.{Making}
use Rattle.repo_prog.specs.declared.words.Order.{Order}
use Rattle.repo_prog.specs.Addresses.{IsAddress, LeavesPort}
use Rattle.repo_prog.specs.FramesRun.{FramesGive}
use Rattle.repo_prog.specs.HexLines.{line_feed}

-- the exit status of each end
abbrev pub status_code : Status → ℕ
status_code Status.Done = 0
status_code Status.Failed = 1
status_code Status.Usage = 2
status_code Status.Flawed = 3

-- what a command that was begun may end with: it is done, or it failed
abbrev pub IsEnd : Status → Type 0
IsEnd Status.Done = ⊤
IsEnd Status.Failed = ⊤
IsEnd Status.Usage = ⊥
IsEnd Status.Flawed = ⊥

-- a command did what was asked: it is done, or done and something isn't as it should be
abbrev pub IsStoredStatus : Status → Type 0
IsStoredStatus Status.Done = ⊤
IsStoredStatus Status.Flawed = ⊤
IsStoredStatus Status.Failed = ⊥
IsStoredStatus Status.Usage = ⊥

-- the word of an errand's command
abbrev pub errand_word : Errand → List ℕ
errand_word (Errand.Backup host folder) = codes "backup"
errand_word Errand.Snapshots = codes "snapshots"
errand_word (Errand.Restore name folder) = codes "restore"
errand_word (Errand.Forget choice) = codes "forget"
errand_word (Errand.Foresee choice) = codes "forget"
errand_word Errand.Prune = codes "prune"
errand_word Errand.Upgrade = codes "upgrade"
errand_word Errand.Check = codes "check"
errand_word (Errand.Locks LockErrand.List) = codes "locks"
errand_word (Errand.Locks (LockErrand.Refresh token)) = codes "refresh"
errand_word (Errand.Locks (LockErrand.Remove all)) = codes "unlock"

-- a choice within its limits: a host has 1 to 255 bytes
abbrev pub IsChoice : Choice → Type 0
IsChoice (Choice.Names names) = ⊤
IsChoice (Choice.Keep policy) = ⊤
IsChoice (Choice.KeepOf host policy) = IsHost host

-- what a policy chooses: of one host, where one is named, and else of all
abbrev pub choice_for : Option (List ℕ) → Policy → Choice
choice_for None policy = Choice.Keep policy
choice_for (Some host) policy = Choice.KeepOf host policy

-- a policy is given, or a host
abbrev pub HasPolicy : Option (List ℕ) → Policy → Type 0
HasPolicy host policy = (host ≢ None) ⊎ ((policy.last ≢ 0) ⊎ (policy.daily ≢ 0))

-- a word that is the path of a folder: it isn't empty
abbrev pub IsFolderWord : List ℕ → Type 0
IsFolderWord text = text ≢ []

-- an errand within its limits
abbrev pub IsErrand : Errand → Type 0
IsErrand (Errand.Backup host folder) = IsHost host × IsFolderWord (string_bytes folder)
IsErrand Errand.Snapshots = ⊤
IsErrand (Errand.Restore name folder) = IsFolderWord (string_bytes folder)
IsErrand (Errand.Forget choice) = IsChoice choice
IsErrand (Errand.Foresee choice) = IsChoice choice
IsErrand Errand.Prune = ⊤
IsErrand Errand.Upgrade = ⊤
IsErrand Errand.Check = ⊤
IsErrand (Errand.Locks errand) = ⊤

-- a time after which an idle connection ends, if there is one: it isn't 0
abbrev pub IsIdle : Option Duration → Type 0
IsIdle None = ⊤
IsIdle (Some time) = 0 < as_nanos time

-- a way of making a store within its limits
abbrev pub IsMaking : Making → Type 0
IsMaking making = IsTarget making.target × IsKnownTo greatest_version making.version

-- how many connections may be served at once
abbrev pub IsAtOnce : ℕ → Type 0
IsAtOnce n = (1 ≤ n) × (n ≤ 256)

-- a way of serving a store within its limits
abbrev pub IsServing : Serving → Type 0
IsServing serving = (1 ≤ serving.connections) × IsAtOnce serving.at_once × IsIdle serving.idle

-- an order within its limits
abbrev pub IsOrder : Order → Type 0
IsOrder Order.Frames = ⊤
IsOrder Order.Play = ⊤
IsOrder Order.Loop = ⊤
IsOrder (Order.Init folder making) = IsFolderWord (string_bytes folder) × IsMaking making
IsOrder (Order.Serve folder address serving) = IsFolderWord (string_bytes folder) × IsAddress (string_bytes address) × IsServing serving
IsOrder (Order.Client address errand retry idle) = IsAddress (string_bytes address) × IsErrand errand × IsIdle idle

-- an order to check a store
abbrev pub ChecksStore : Order → Type 0
ChecksStore (Order.Client address errand retry idle) = errand ≡ Errand.Check
ChecksStore _ = ⊥

-- an order that reads the input
abbrev pub ReadsInput : Order → Type 0
ReadsInput Order.Frames = ⊤
ReadsInput Order.Play = ⊤
ReadsInput Order.Loop = ⊤
ReadsInput (Order.Init folder making) = ⊥
ReadsInput (Order.Serve folder address serving) = ⊥
ReadsInput (Order.Client address errand retry idle) = ⊥

-- what the command gives for this input, of which this is left unread: all that was asked, or what one of the errors leaves
abbrev pub FramesGives : List ℕ → Option (List ℕ) → Status → Option (List ℕ) → Option (List ℕ) → Type 0
FramesGives input start Status.Done left contents = (n : ℕ) × FramesGive input left start (Ok n) contents
FramesGives input start Status.Failed left contents = (error : FramesError) × FramesGive input left start (Err error) contents
FramesGives input start Status.Usage left contents = ⊥
FramesGives input start Status.Flawed left contents = ⊥

-- the same of a script, of which this is left unread: it was played to its end, or as far as one of the errors lets it
abbrev pub PlayGives : List ℕ → Option (List ℕ) → Status → Option (List ℕ) → Option (List ℕ) → Type 0
PlayGives input start Status.Done left contents = Plays Grammar.Whole input left start (Ok tt) contents
PlayGives input start Status.Failed left contents = (error : PlayError) × Plays Grammar.Whole input left start (uncarried (Err error)) contents
PlayGives input start Status.Usage left contents = ⊥
PlayGives input start Status.Flawed left contents = ⊥

-- and of one whose messages are carried; or nothing could listen, and nothing was read or written
abbrev pub LoopGives : List ℕ → Option (List ℕ) → Status → Option (List ℕ) → Option (List ℕ) → Type 0
LoopGives input start Status.Done left contents = Plays Grammar.Carried input left start (Ok tt) contents
LoopGives input start Status.Failed left contents = ((left ≡ Some input) × (contents ≡ start)) ⊎ ((error : LoopError) × Plays Grammar.Carried input left start (Err error) contents)
LoopGives input start Status.Usage left contents = ⊥
LoopGives input start Status.Flawed left contents = ⊥

-- the config of a store that is made so, with this instance
abbrev pub config_by : Making → Instance → Config
config_by making id = record { version = making.version; id = id; params = making.params; target = making.target }

-- the line that tells a new store's instance
abbrev pub created_line : Instance → List ℕ
created_line id = codes "created " ++ encode_lower id.0 ++ line_feed ∷ []

-- the line that tells that a server listens
abbrev pub listening_line : List ℕ
listening_line = codes "listening" ++ line_feed ∷ []

-- the line with the address at which a server listens
abbrev pub address_line : List ℕ → ℕ → List ℕ
address_line host port = codes "address " ++ (host ++ (codes ":" ++ (decimal port ++ codes "\n")))

-- what a server at this address writes once it listens: that it listens, and, if the address leaves the port to the system, the address with the port that it has
abbrev pub ListensBy : List ℕ → List ℕ → Type 0
ListensBy address lines =
    ((lines ≡ listening_line) × ((host : List ℕ) → ¬ LeavesPort address host)) ⊎ ((host : List ℕ) × (port : ℕ) × LeavesPort address host × (lines ≡ listening_line ++ address_line host port))

-- it was written
abbrev pub Listens : List ℕ → Option (List ℕ) → Option (List ℕ) → Type 0
Listens address start contents = (lines : List ℕ) × ListensBy address lines × Appends start contents lines

-- nothing of it was, or some first part, or all of it
abbrev pub ListensAtMost : List ℕ → Option (List ℕ) → Option (List ℕ) → Type 0
ListensAtMost address start contents =
    (contents ≡ start) ⊎ ((lines : List ℕ) × ListensBy address lines × (AppendsPart start contents lines ⊎ Appends start contents lines))

-- what making a store gives: it was made, and its line was written, or some first part of the line, and not all of it; or an error left what it leaves, and nothing was written
abbrev pub InitGives : Config → Store → Option (List ℕ) → Status → Store → Option (List ℕ) → Type 0
InitGives config old start Status.Done new contents = Makes (config_text config) old (Ok tt) new × Appends start contents (created_line config.id)
InitGives config old start Status.Failed new contents =
    ((error : InitError) × Makes (config_text config) old (Err error) new × (contents ≡ start))
    ⊎ (Makes (config_text config) old (Ok tt) new × AppendsPart start contents (created_line config.id))
InitGives config old start Status.Usage new contents = ⊥
InitGives config old start Status.Flawed new contents = ⊥
