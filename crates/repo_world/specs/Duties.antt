-- What a client owes, whatever its job: what it may put and delete, and that what it tells is so.
use Rattle.std.specs.Prelude.{◌≡◌, ◌≢◌, ◌⊎◌, [], ⊤, ℕ, List, Some, Contains}
use Rattle.repo_name.specs.declared.kinds.BlobKind.{BlobKind}
use Rattle.repo_name.specs.declared.kinds.BlobKind.TheVariants.{Tree}
use Rattle.repo_name.specs.declared.kinds.Kind.{Kind}
use Rattle.repo_name.specs.declared.names.Name.{Name}
use Rattle.repo_name.specs.declared.rows.LockRow.{LockRow}
use Rattle.repo_name.specs.declared.tokens.Token.{Token}
use Rattle.repo_wire.specs.declared.messages.Ask.{Ask}
use Rattle.repo_wire.specs.declared.messages.Request.{Request}
use Rattle.repo_wire.specs.declared.messages.Say.{Say}
use Rattle.repo_pack.specs.PackLayout.{Item, IsTruePack}
use Rattle.repo_index.specs.IndexText.{Says}
use Rattle.repo_index.specs.declared.facts.Fact.{Fact}
use Rattle.repo_tree.specs.SnapshotText.{IsSnapshotText}
use Rattle.repo_tree.specs.Spelling.{HasPair, Reach, Spells}
use Rattle.repo_tree.specs.declared.entries.Entry.{Entry}
use Rattle.repo_tree.specs.declared.snapshots.Snapshot.{Snapshot}
use Rattle.repo_reach.specs.Collected.{tree_blobs}
use Rattle.repo_session.specs.Clients.{IsNextRequest}
use Rattle.repo_session.specs.Deletions.{DeleteDone}
use Rattle.repo_session.specs.Order.{Obeys}
use Rattle.repo_session.specs.Rebuilding.{rebuilt, AreWhole}
use Rattle.repo_session.specs.Received.{Received}
use Rattle.repo_session.specs.Told.{AskedToDelete, AskedToPut}
use Rattle.repo_session.specs.Traces.{Exchange, Trace, Exchanged, IsListed, Lists, WasAsked, emitted_in}
use Rattle.repo_session.specs.Trees.{HasRoot}
use Rattle.repo_session.specs.declared.outcomes.Outcome.{Outcome}
use Rattle.repo_writing.specs.Laws.{AreGiven, IsPutOrKept, blobs_in}
use Rattle.repo_writing.specs.Putting.{IsIndexOf, IsIndexed, PutDone}
use Rattle.repo_backup.specs.PieceRules.{AreOver}
use Rattle.repo_prune.specs.Forgetting.{MayForget}
use Rattle.repo_prune.specs.Upgrading.{HasReadVersion}
use Rattle.repo_prune.specs.declared.choices.Choice.{Choice}
use Rattle.repo_world.specs.Clients.{Client, MadeOf, handed_by, task_of}
use Rattle.repo_world.specs.declared.jobs.Job.{Job}

-- ---- what it may put

-- nothing was deleted
abbrev pub NothingDeleted : Trace → Type 0
NothingDeleted es = (k : Kind) (n : Name) → ¬ AskedToDelete es k n

-- all was handed to it: where it is fed, the items ended
abbrev pub IsAllHanded : Job → Trace → Type 0
IsAllHanded Job.Pieces es = AreOver es
IsAllHanded _ es = ⊤

-- a snapshot may be put: it has the token that puts it, the host and the time of the lock that was granted, and the version of the config that was read;
-- all was handed to the job; and its tree spells that in blobs that were made of it, each of which an index gives that was read, or was put and is done
pub record MayPutSnapshot (job : Job) (es : Trace) (token : Token) (x : List ℕ) : Type 0 where
  pub snapshot : Snapshot
  pub reads : IsSnapshotText x snapshot
  pub token_is : snapshot.token ≡ token
  pub row : LockRow
  pub locked : Exchanged es (Ask.Lock row) Say.Done
  pub host_is : snapshot.host ≡ row.host
  pub time_is : snapshot.time ≡ row.time
  pub version_is : HasReadVersion es snapshot.version
  pub entries : List Entry
  pub handed : handed_by job es ≡ Some entries
  pub all : IsAllHanded job es
  pub items : List Item
  pub made : (kind : BlobKind) (y : List ℕ) → blobs_in items kind y → MadeOf job es y
  pub given : AreGiven es items
  pub spells : Spells snapshot.version (blobs_in items) snapshot.tree [] entries

-- ---- what it may delete

-- a listed snapshot is carried over: it was read; each tree that it reaches, in these, is among them; and whatever it reaches there, an index gives that
-- was put and is done
pub record IsCarried (es : Trace) (trees : List (List ℕ)) (s : Name) : Type 0 where
  pub version : ℕ
  pub root : Name
  pub found : HasRoot es s version root
  pub walked : (n : Name) → Reach version (tree_blobs trees) root Tree n → HasPair (tree_blobs trees) Tree n
  pub given : (k : BlobKind) (n : Name) → Reach version (tree_blobs trees) root k n → IsIndexed es k n

-- an index may go: the snapshots are listed to their end, and in trees that were received each is carried over; each index that was put is done, and this
-- one wasn't put
pub record IndexMayGo (es : Trace) (n : Name) : Type 0 where
  pub listed : IsListed Kind.Snapshot es
  pub trees : List (List ℕ)
  pub received : (x : List ℕ) → Contains trees x → Received es Tree x
  pub carried : (s : Name) → Lists es Kind.Snapshot s → IsCarried es trees s
  pub done : (token : Token) (i : Name) (x : List ℕ) → WasAsked es (Ask.Put token Kind.Index i x) → PutDone es Kind.Index i x
  pub unput : ¬ AskedToPut es Kind.Index n

-- a pack may go: the indexes are listed to their end, and each was put, or its deletion is done; the pack wasn't put, and no index that was put names it
pub record PackMayGo (es : Trace) (n : Name) : Type 0 where
  pub listed : IsListed Kind.Index es
  pub replaced : (i : Name) → Lists es Kind.Index i → AskedToPut es Kind.Index i ⊎ DeleteDone es Kind.Index i
  pub unput : ¬ AskedToPut es Kind.Pack n
  pub unnamed : (token : Token) (i : Name) (x : List ℕ) (fact : Fact) → WasAsked es (Ask.Put token Kind.Index i x) → Says x fact → fact.place.pack ≢ n

-- ---- what it owes

-- what it owes where it asks for this. It puts true packs, and indexes of packs that it put or keeps, before it deletes anything; a snapshot where it may.
-- It deletes an index or a pack where that may go, and a snapshot as a forget alone, which chose it by what it had read. (By the order whoever deletes
-- wants the lock alone, and is no backup.)
abbrev pub Owes : Job → Trace → Ask → Type 0
Owes job es (Ask.Put token Kind.Pack n x) = NothingDeleted es × ((items : List Item) × IsTruePack x items)
Owes job es (Ask.Put token Kind.Index n x) = NothingDeleted es × IsIndexOf (IsPutOrKept es) x
Owes job es (Ask.Put token Kind.Snapshot n x) = MayPutSnapshot job es token x
Owes job es (Ask.Delete token Kind.Index n) = IndexMayGo es n
Owes job es (Ask.Delete token Kind.Pack n) = PackMayGo es n
Owes job es (Ask.Delete token Kind.Snapshot n) = (choice : Choice) × (job ≡ Job.Forget choice) × MayForget choice es n
Owes job es _ = ⊤

-- it may give out anything
abbrev pub GivesAny : Trace → Exchange → Type 0
GivesAny es e = ⊤

-- the snapshot is given back: what was given out is directories and whole files, and what its tree spells in the blobs that were received
pub record HasGivenBack (es : Trace) (s : Name) : Type 0 where
  pub version : ℕ
  pub root : Name
  pub found : HasRoot es s version root
  pub spells : Spells version (Received es) root [] (rebuilt (emitted_in es))
  pub whole : AreWhole (emitted_in es)

-- what it tells is so: that its snapshot is stored; as a restore that all is given back; that the config is of version 2
abbrev pub Tells : Job → Trace → Outcome → Type 0
Tells job es (Outcome.Stored name blobs bytes) = (x : List ℕ) × PutDone es Kind.Snapshot name x
Tells (Job.Restore s) es (Outcome.Complete count) = HasGivenBack es s
Tells job es Outcome.Upgraded = HasReadVersion es 2 ⊎ ((token : Token) × Exchanged es (Ask.Upgrade token) Say.Done)
Tells job es _ = ⊤

-- a client is dutiful: each of its requests, the pending one among them, the order allows, and what it owes held where it asked; and what it tells is so
pub record IsDutiful (c : Client) : Type 0 where
  pub obeys : Obeys (task_of c.job c.who) (Owes c.job) GivesAny c.trace
  pub pending : (request : Request) → c.next ≡ Some request → IsNextRequest (task_of c.job c.who) (Owes c.job) c.trace request
  pub concluded : (o : Outcome) → c.outcome ≡ Some o → Tells c.job c.trace o
