-- What holds of the snapshot that a backup stored which fed itself.
use Rattle.std.specs.Prelude.{◌≡◌, ◌⊎◌, [], ⊤, ℕ, List, Option, Some, None}
use Rattle.repo_name.specs.Naming as naming
use Rattle.repo_name.specs.declared.kinds.BlobKind.{BlobKind}
use Rattle.repo_name.specs.declared.kinds.Kind.{Kind}
use Rattle.repo_name.specs.declared.names.Name.{Name}
use Rattle.repo_tree.specs.SnapshotText.{IsSnapshotText}
use Rattle.repo_tree.specs.Spelling.{Spells}
use Rattle.repo_tree.specs.declared.entries.Entry.{Entry}
use Rattle.repo_tree.specs.declared.snapshots.Snapshot.{Snapshot}
use Rattle.repo_wire.specs.declared.messages.Request.{Request}
use Rattle.repo_session.specs.Askers.{Asker}
use Rattle.repo_session.specs.Clients.{IsObedientBy}
use Rattle.repo_session.specs.Feeds.{Fed}
use Rattle.repo_session.specs.Traces.{Trace, IsGiven, fed_in}
use Rattle.repo_session.specs.declared.outcomes.Outcome.{Outcome}
use Rattle.repo_writing.specs.Putting.{PutDone, IsIndexed}
use Rattle.repo_backup.specs.Handed.{AreHanded}
use Rattle.repo_backup.specs.Items.{NobodyGaveUp, place_of}
use Rattle.repo_backup.specs.Laws.{IsFedBackup}
use Rattle.repo_feeding.specs.FedRules.{AreWelcome, IsAsTold, IsOnTheWay, fed_rule}
use Rattle.repo_feeding.specs.Unfed.{unfed}
use Rattle.repo_feeding.specs.Sources.{spelled_in}

-- an index that was read, or that was put, gives the blob of this kind and these bytes
abbrev pub IsIndexedBlob : Trace → BlobKind → List ℕ → Type 0
IsIndexedBlob es kind bytes = IsGiven es kind (naming.name bytes) ⊎ IsIndexed es kind (naming.name bytes)

-- where the source is known, the entries are those that it was made to give
abbrev pub AreOfSource : Option (List Fed) → List Entry → Type 0
AreOfSource None entries = ⊤
AreOfSource (Some whole) entries = entries ≡ spelled_in whole

-- a snapshot of this name was put, and that is done: its tree spells, in blobs that are indexed, entries that may be handed in, those of the source
pub record IsSpelledSnapshot (whole : Option (List Fed)) (es : Trace) (name : Name) : Type 0 where
  pub text : List ℕ
  pub snapshot : Snapshot
  pub entries : List Entry
  pub put : PutDone es Kind.Snapshot name text
  pub reads : IsSnapshotText text snapshot
  pub handed : AreHanded entries
  pub spells : Spells snapshot.version (IsIndexedBlob es) snapshot.tree [] entries
  pub of_source : AreOfSource whole entries

-- a client stands at these exchanges by the rule of a backup that feeds itself
abbrev pub IsFedClient : Asker → Option (List Fed) → Option Request → Option Outcome → Trace → Type 0
IsFedClient who whole next outcome es = IsObedientBy (fed_rule who whole) who next outcome es

-- a backup that is fed stands at these exchanges by its rule, with some items between them, each of which was welcome; and where its source is known they are on
-- the way to what it was made to give, unless somebody gave up, and spell that, once they ended
pub record StandsAsFed (who : Asker) (whole : Option (List Fed)) (next : Option Request) (outcome : Option Outcome) (es : Trace) : Type 0 where
  pub fs : Trace
  pub same : unfed fs ≡ es
  pub welcome : AreWelcome fs
  pub so_far : NobodyGaveUp (fed_in fs) → IsOnTheWay whole (place_of (fed_in fs))
  pub told : IsAsTold whole (place_of (fed_in fs))
  pub fed : IsFedBackup who next outcome fs

-- where a backup that feeds itself stands, one that is fed stands with some items
abbrev pub FedClientsAreFed : Type 0
FedClientsAreFed = (who : Asker) (whole : Option (List Fed)) (next : Option Request) (outcome : Option Outcome) (es : Trace) → unfed es ≡ es → IsFedClient who whole next outcome es → StandsAsFed who whole next outcome es

-- what it stored is such a snapshot
abbrev pub StoredIsSpelled : Type 0
StoredIsSpelled = (who : Asker) (whole : Option (List Fed)) (next : Option Request) (es : Trace) (name : Name) (blobs bytes : ℕ)
    → IsFedClient who whole next (Some (Outcome.Stored name blobs bytes)) es → IsSpelledSnapshot whole es name
