-- The lines that the commands of clients write.
use Rattle.std.specs.Prelude.{◌⊎◌, ◌≡◌, ◌++◌, [], ℕ, Bool, true, false, List, codes, decimal, Option, Some, None}
use Rattle.std.specs.Io.KnownBytes.{Appends}
use Rattle.std.specs.List.{flat_map}
use Rattle.repo_name.specs.Naming.{hex_of}
use Rattle.repo_name.specs.declared.names.Name.{Name}
use Rattle.repo_name.specs.declared.rows.LockRow.{LockRow}
use Rattle.repo_name.specs.declared.tokens.Token.{Token}
use Rattle.repo_tree.specs.declared.snapshots.Snapshot.{Snapshot}
use Rattle.repo_wire.specs.declared.messages.Say.{Say}
use Rattle.repo_name.specs.declared.kinds.Thing.{Thing}
use Rattle.repo_wire.specs.Messages.{code_number}
use Rattle.repo_session.specs.Results.{result_text, thing_word}
use Rattle.repo_session.specs.declared.outcomes.CheckFault.{CheckFault}
use Rattle.repo_session.specs.declared.outcomes.End.{End}
use Rattle.repo_session.specs.declared.outcomes.FaultKind.{FaultKind}
use Rattle.repo_session.specs.declared.outcomes.Outcome.{Outcome}
use Rattle.repo_store.specs.Output.{AppendsPart}
use Rattle.repo_prog.specs.Printing.{printed}
use Rattle.repo_prog.specs.declared.status.Status.{Status}

-- what a lock is called
abbrev pub lock_word : Bool → List ℕ
lock_word true = codes "exclusive"
lock_word false = codes "shared"

-- a live lock: its token, which sort it is, its time and its host
abbrev pub lock_line : LockRow → List ℕ
lock_line row = decimal row.token.0 ++ (codes " " ++ (lock_word row.exclusive ++ (codes " " ++ (decimal row.time ++ (codes " " ++ (printed row.host ++ codes "\n"))))))

-- live locks, a line each
abbrev pub lock_lines : List LockRow → List ℕ
lock_lines rows = flat_map lock_line rows

-- a snapshot: its name, its time and its host
abbrev pub snapshot_line : Name × Snapshot → List ℕ
snapshot_line row = hex_of row.0 ++ (codes " " ++ (decimal row.1.time ++ (codes " " ++ (printed row.1.host ++ codes "\n"))))

-- snapshots, a line each
abbrev pub snapshot_lines : List (Name × Snapshot) → List ℕ
snapshot_lines rows = flat_map snapshot_line rows

-- a snapshot was stored: its name, and the blobs and bytes that weren't there
abbrev pub stored_line : Name → ℕ → ℕ → List ℕ
stored_line name blobs bytes = codes "stored " ++ (hex_of name ++ (codes " " ++ (decimal blobs ++ (codes " " ++ (decimal bytes ++ codes "\n")))))

-- a snapshot was restored: so many directories and files
abbrev pub complete_line : ℕ → List ℕ
complete_line entries = codes "complete " ++ (decimal entries ++ codes "\n")

-- a snapshot was forgotten
abbrev pub forgotten_line : Name → List ℕ
forgotten_line name = codes "forgotten " ++ (hex_of name ++ codes "\n")

-- snapshots were forgotten, a line each
abbrev pub forgotten_lines : List Name → List ℕ
forgotten_lines names = flat_map forgotten_line names

-- a snapshot would be forgotten
abbrev pub foreseen_line : Name → List ℕ
foreseen_line name = codes "would forget " ++ (hex_of name ++ codes "\n")

-- snapshots would be forgotten, a line each
abbrev pub foreseen_lines : List Name → List ℕ
foreseen_lines names = flat_map foreseen_line names

-- what snapshots don't need was removed: so many packs, and so many bytes of blobs were put into new ones
abbrev pub pruned_line : ℕ → ℕ → List ℕ
pruned_line packs bytes = codes "pruned " ++ (decimal packs ++ (codes " " ++ (decimal bytes ++ codes "\n")))

-- the line of an upgrade
abbrev pub upgraded_line : List ℕ
upgraded_line = codes "upgraded\n"

-- all is well: so many snapshots, indexes and packs, and so many blobs that the snapshots need
abbrev pub clean_line : ℕ → ℕ → ℕ → ℕ → List ℕ
clean_line snapshots indexes packs blobs =
    codes "clean " ++ (decimal snapshots ++ (codes " " ++ (decimal indexes ++ (codes " " ++ (decimal packs ++ (codes " " ++ (decimal blobs ++ codes "\n")))))))

-- how a thing is at fault
abbrev pub fault_word : FaultKind → List ℕ
fault_word FaultKind.Missing = codes "missing"
fault_word FaultKind.Name = codes "name"
fault_word FaultKind.Unreadable = codes "unreadable"
fault_word FaultKind.Place = codes "place"
fault_word FaultKind.Unindexed = codes "unindexed"

-- a thing is at fault
abbrev pub fault_line : CheckFault → List ℕ
fault_line fault = codes "fault " ++ (thing_word fault.thing ++ (codes " " ++ (hex_of fault.name ++ (codes " " ++ (fault_word fault.what ++ codes "\n")))))

-- things are at fault, a line each
abbrev pub fault_lines : List CheckFault → List ℕ
fault_lines faults = flat_map fault_line faults

-- a lock has a new time
abbrev pub refreshed_line : List ℕ
refreshed_line = codes "refreshed\n"

-- a lock was removed
abbrev pub removed_line : Token → List ℕ
removed_line token = codes "removed " ++ (decimal token.0 ++ codes "\n")

-- an object: what it is called, and its name
abbrev pub object_line : Thing → Name → List ℕ
object_line thing name = thing_word thing ++ (codes " " ++ (hex_of name ++ codes "\n"))

-- the object that is missing or can't be read, if a job ended by one
abbrev pub end_lines : End → List ℕ
end_lines (End.Missing thing name) = object_line thing name
end_lines (End.BadObject thing name) = object_line thing name
end_lines _ = []

-- the same of what a job came to
abbrev pub ended_lines : Option Outcome → List ℕ
ended_lines (Some (Outcome.Ended end)) = end_lines end
ended_lines _ = []

-- a job that didn't do what it was for: how it ended, and on a line of its own the object that it ended by, if there is one
abbrev pub unfinished_lines : Option Outcome → List ℕ
unfinished_lines outcome = result_text outcome false ++ (codes "\n" ++ ended_lines outcome)

-- a reply that isn't what was asked for
abbrev pub unwelcome_line : Say → List ℕ
unwelcome_line (Say.Refused code) = codes "refused " ++ (decimal (code_number code) ++ codes "\n")
unwelcome_line _ = codes "badreply\n"

-- these bytes were written, or some first part of them
abbrev pub WritesFirst : List ℕ → Option (List ℕ) → Option (List ℕ) → Type 0
WritesFirst bytes start contents = Appends start contents bytes ⊎ AppendsPart start contents bytes

-- these lines, which say why a command failed, were written, or that there was no memory for them; what couldn't be written is lost
abbrev pub TellsWhy : List ℕ → Option (List ℕ) → Option (List ℕ) → Type 0
TellsWhy lines start contents = WritesFirst lines start contents ⊎ WritesFirst (codes "out of memory\n") start contents

-- nothing was written, or some first part of these bytes, and not all of them
abbrev pub IsCutShort : Option (List ℕ) → Option (List ℕ) → List ℕ → Type 0
IsCutShort start contents bytes = (contents ≡ start) ⊎ AppendsPart start contents bytes

-- what a status says of the output: done, the text was written; failed, nothing, or some first part of it
abbrev pub Shows : List ℕ → Status → Option (List ℕ) → Option (List ℕ) → Type 0
Shows text Status.Done start contents = Appends start contents text
Shows text Status.Failed start contents = IsCutShort start contents text
Shows text Status.Flawed start contents = ⊥
Shows text Status.Usage start contents = ⊥

-- what a status says of a text that there may be: where there is none it failed, and nothing was written
abbrev pub TellsIfThere : Option (List ℕ) → Status → Option (List ℕ) → Option (List ℕ) → Type 0
TellsIfThere (Some text) status start contents = Shows text status start contents
TellsIfThere None status start contents = (status ≡ Status.Failed) × (contents ≡ start)

-- what a reply tells of the live locks
abbrev pub locks_told : Say → Option (List ℕ)
locks_told (Say.LockList rows) = Some (lock_lines rows)
locks_told _ = None

-- what a reply tells of a refresh
abbrev pub refresh_told : Say → Option (List ℕ)
refresh_told Say.Done = Some refreshed_line
refresh_told _ = None

-- what a reply tells of the removal of a lock
abbrev pub removal_told : Token → Say → Option (List ℕ)
removal_told token Say.Done = Some (removed_line token)
removal_told token _ = None
