-- What commands show of their jobs.
use Rattle.std.specs.Prelude.{◌≡◌, ⊤, ◌⊎◌, Option, ℕ, List, Some}
use Rattle.repo_prog.specs.Tellings.{snapshot_lines, complete_line, stored_line, foreseen_lines, forgotten_lines, pruned_line, upgraded_line, fault_lines, clean_line}
use Rattle.repo_dial.specs.Dialing.{Connections}
use Rattle.repo_prog.specs.declared.callers.Caller.{Caller}
use Rattle.repo_prog.specs.declared.status.Status.{Status}
use Rattle.repo_prog.specs.Jobs.{RestoresSnapshot, Prunes, Checks, Stores, Foresees, Forgets, ListsSnapshots, Upgrades}
use Rattle.repo_session.specs.Feeds.{Fed}
use Rattle.repo_session.specs.Sessions.{ended_in}
use Rattle.repo_session.specs.Traces.{Trace}
use Rattle.repo_backup.specs.declared.piece_backups.PieceBackup.{PieceBackup}
use Rattle.repo_feeding.specs.FedStates.{FitsFed, feeder}
use Rattle.repo_feeding.specs.Sources.{Told, told_with}
use Rattle.repo_feeding.specs.declared.reasons.GivenUp.{GivenUp}
use Rattle.std.specs.Io.KnownBytes.{Appends}
use Rattle.repo_prune.specs.declared.choices.Choice.{Choice}
use Rattle.repo_prune.specs.Forgetting.{WouldForget}
use Rattle.repo_session.specs.declared.outcomes.CheckFault.{CheckFault}
use Rattle.repo_name.specs.declared.names.Name.{Name}
use Rattle.repo_store.specs.Output.{AppendsPart}
use Rattle.repo_tree.specs.declared.snapshots.Snapshot.{Snapshot}
use Rattle.repo_session.specs.declared.outcomes.Outcome.{Outcome}

-- What is told, by the status. Done: it came to something, and the lines of that were written. Failed: nothing was written, or some first part of the lines
-- of something that it came to.
abbrev pub Tells : {A : Type 0} → (A → Type 0) → (A → List ℕ) → Status → Option (List ℕ) → Option (List ℕ) → Type 0
Tells {A} Came lines Status.Done before after = (a : A) × Came a × Appends before after (lines a)
Tells {A} Came lines Status.Failed before after = (after ≡ before) ⊎ ((a : A) × Came a × AppendsPart before after (lines a))
Tells Came lines Status.Flawed before after = ⊥
Tells Came lines Status.Usage before after = ⊥

-- the same of what may come to one of two: flawed, it came to the second
abbrev pub TellsEither : {A B : Type 0} → (A → Type 0) → (A → List ℕ) → (B → Type 0) → (B → List ℕ) → Status → Option (List ℕ) → Option (List ℕ) → Type 0
TellsEither {A} {B} Well lines Ill flaws Status.Done before after = (a : A) × Well a × Appends before after (lines a)
TellsEither {A} {B} Well lines Ill flaws Status.Flawed before after = (b : B) × Ill b × Appends before after (flaws b)
TellsEither {A} {B} Well lines Ill flaws Status.Failed before after =
    (after ≡ before) ⊎ (((a : A) × Well a × AppendsPart before after (lines a)) ⊎ ((b : B) × Ill b × AppendsPart before after (flaws b)))
TellsEither Well lines Ill flaws Status.Usage before after = ⊥

-- a status without its flaw
abbrev pub unflawed : Status → Status
unflawed Status.Done = Status.Done
unflawed Status.Failed = Status.Failed
unflawed Status.Usage = Status.Usage
unflawed Status.Flawed = Status.Done

-- ---- what a job comes to, and its lines

-- a snapshot's name, and how many blobs of how many bytes were put
abbrev pub Stored : Type 0
Stored = Name × ℕ × ℕ

abbrev pub stored_lines : Stored → List ℕ
stored_lines s = stored_line s.0 s.1 s.2

-- how many packs were deleted, and how many bytes of blobs moved
abbrev pub Pruned : Type 0
Pruned = ℕ × ℕ

abbrev pub pruned_lines : Pruned → List ℕ
pruned_lines p = pruned_line p.0 p.1

-- nothing but that it is done
abbrev pub upgraded_lines : ⊤ → List ℕ
upgraded_lines done = upgraded_line

-- how many snapshots, indexes, packs and blobs are well
abbrev pub Clean : Type 0
Clean = ℕ × ℕ × ℕ × ℕ

abbrev pub clean_lines : Clean → List ℕ
clean_lines c = clean_line c.0 c.1 c.2 c.3

-- ---- an outcome is shown

abbrev pub ShowsStored : Option Outcome → Status → Option (List ℕ) → Option (List ℕ) → Type 0
ShowsStored outcome status before after = Tells (λ (s : Stored). outcome ≡ Some (Outcome.Stored s.0 s.1 s.2)) stored_lines status before after

-- in the end a backup had stored a snapshot, with a source of which this is known: what it was made to give, for what it failed, and whether it may begin again. An item that came may wait
abbrev pub HasStoredFrom : {E : Type 0} → Option Told → (E → Type 0) → Type 0 → Type 0
HasStoredFrom {E} told failed rewinds =
    (b : PieceBackup) × ((waits : Option Fed) × ((rest : List ℕ) × ((given_up : Option (GivenUp E)) × ((es : Trace) × FitsFed (feeder b (told_with told waits) rest failed rewinds given_up) es × ((s : Stored) × (ended_in b.session ≡ Some (Outcome.Stored s.0 s.1 s.2)))))))

abbrev pub ShowsListed : Outcome → Status → Option (List ℕ) → Option (List ℕ) → Type 0
ShowsListed outcome status before after = Tells (λ (rows : List (Name × Snapshot)). outcome ≡ Outcome.Listed rows) snapshot_lines status before after

abbrev pub ShowsRestored : Outcome → Status → Option (List ℕ) → Option (List ℕ) → Type 0
ShowsRestored outcome status before after = Tells (λ (entries : ℕ). outcome ≡ Outcome.Complete entries) complete_line status before after

abbrev pub ShowsForgotten : Outcome → Status → Option (List ℕ) → Option (List ℕ) → Type 0
ShowsForgotten outcome status before after = Tells (λ (names : List Name). outcome ≡ Outcome.Forgotten names) forgotten_lines status before after

abbrev pub ShowsForeseen : Choice → Outcome → Status → Option (List ℕ) → Option (List ℕ) → Type 0
ShowsForeseen choice outcome status before after =
    Tells (λ (names : List Name). (rows : List (Name × Snapshot)) × (outcome ≡ Outcome.Listed rows) × WouldForget choice rows names) foreseen_lines status before after

abbrev pub ShowsPruned : Outcome → Status → Option (List ℕ) → Option (List ℕ) → Type 0
ShowsPruned outcome status before after = Tells (λ (p : Pruned). outcome ≡ Outcome.Pruned p.0 p.1) pruned_lines status before after

abbrev pub ShowsUpgraded : Outcome → Status → Option (List ℕ) → Option (List ℕ) → Type 0
ShowsUpgraded outcome status before after = Tells (λ (done : ⊤). outcome ≡ Outcome.Upgraded) upgraded_lines status before after

abbrev pub ShowsChecked : Outcome → Status → Option (List ℕ) → Option (List ℕ) → Type 0
ShowsChecked outcome status before after =
    TellsEither (λ (c : Clean). outcome ≡ Outcome.Clean c.0 c.1 c.2 c.3) clean_lines (λ (found : List CheckFault). outcome ≡ Outcome.Faults found) fault_lines status before after

-- ---- a command tells what its job came to, over the connections that were made

abbrev pub TellsStored : Caller → List ℕ → Option (List Fed) → ℕ → Connections → Connections → Status → Option (List ℕ) → Option (List ℕ) → Type 0
TellsStored caller host whole retry coming left status before after =
    Tells (λ (s : Stored). Stores caller host whole s.0 s.1 s.2 retry coming left) stored_lines status before after

abbrev pub TellsListed : Caller → ℕ → Connections → Connections → Status → Option (List ℕ) → Option (List ℕ) → Type 0
TellsListed caller retry coming left status before after = Tells (λ rows. ListsSnapshots caller rows retry coming left) snapshot_lines status before after

abbrev pub TellsRestored : Caller → Name → ℕ → Connections → Connections → Status → Option (List ℕ) → Option (List ℕ) → Type 0
TellsRestored caller name retry coming left status before after = Tells (λ entries. RestoresSnapshot caller name entries retry coming left) complete_line status before after

abbrev pub TellsForgotten : Caller → Choice → ℕ → Connections → Connections → Status → Option (List ℕ) → Option (List ℕ) → Type 0
TellsForgotten caller choice retry coming left status before after = Tells (λ names. Forgets caller choice names retry coming left) forgotten_lines status before after

abbrev pub TellsForeseen : Caller → Choice → ℕ → Connections → Connections → Status → Option (List ℕ) → Option (List ℕ) → Type 0
TellsForeseen caller choice retry coming left status before after = Tells (λ names. Foresees caller choice names retry coming left) foreseen_lines status before after

abbrev pub TellsPruned : Caller → ℕ → Connections → Connections → Status → Option (List ℕ) → Option (List ℕ) → Type 0
TellsPruned caller retry coming left status before after = Tells (λ (p : Pruned). Prunes caller p.0 p.1 retry coming left) pruned_lines status before after

abbrev pub TellsUpgraded : Caller → ℕ → Connections → Connections → Status → Option (List ℕ) → Option (List ℕ) → Type 0
TellsUpgraded caller retry coming left status before after = Tells (λ (done : ⊤). Upgrades caller retry coming left) upgraded_lines status before after

abbrev pub TellsChecked : Caller → ℕ → Connections → Connections → Status → Option (List ℕ) → Option (List ℕ) → Type 0
TellsChecked caller retry coming left status before after =
    TellsEither (λ (c : Clean). Checks caller (Outcome.Clean c.0 c.1 c.2 c.3) retry coming left) clean_lines (λ found. Checks caller (Outcome.Faults found) retry coming left) fault_lines
    status before after
