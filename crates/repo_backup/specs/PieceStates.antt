-- What is known while a backup is fed items.
use Rattle.std.specs.Prelude.{⊤, ◌≡◌, ◌≢◌, ◌⊎◌, ◌<◌, ◌≤◌, ◌++◌, ◌∷◌, [], ℕ, zero, suc, true, false, List, length, Option, Some, None, Contains}
use Rattle.repo_name.specs.Limits.{blob_limit, facts_limit}
use Rattle.repo_name.specs.Naming as naming
use Rattle.repo_name.specs.declared.kinds.Kind.{Kind}
use Rattle.repo_name.specs.declared.names.Name.{Name}
use Rattle.repo_index.specs.IndexText.{IsIndexText, facts_in}
use Rattle.repo_index.specs.declared.facts.Fact.{Fact}
use Rattle.repo_index.specs.declared.facts.PackFacts.{PackFacts}
use Rattle.repo_pack.specs.PackLayout.{Item, item_of}
use Rattle.repo_name.specs.declared.kinds.BlobKind.TheVariants.{Tree}
use Rattle.repo_session.specs.Askers.{Asker, Holding}
use Rattle.repo_session.specs.Order.{Task}
use Rattle.repo_session.specs.Readings.{KnowsIndexes, HasNotedFacts}
use Rattle.repo_session.specs.Traces.{Trace, fed_in, objects_put}
use Rattle.repo_session.specs.declared.catalogs.Catalog.{Catalog}
use Rattle.repo_session.specs.declared.jobs.Step.{Step}
use Rattle.repo_session.specs.declared.outcomes.End.{End}
use Rattle.repo_tree.specs.SnapshotText.{IsSnapshotText, snapshot_text}
use Rattle.repo_tree.specs.declared.configs.Config.{Config}
use Rattle.repo_tree.specs.declared.snapshots.Snapshot.{Snapshot}
use Rattle.repo_wire.specs.declared.messages.Ask.{Ask}
use Rattle.repo_writing.specs.Writing.{Put, items_of, AreCounts, FewWait}
use Rattle.repo_backup.specs.Backing.{HasWritten}
use Rattle.repo_backup.specs.Items.{Feeding, NobodyGaveUp, AreTaken, place_of}
use Rattle.repo_backup.specs.Packings.{IsListed}
use Rattle.repo_writing.specs.Filling.{HasConfig, IsPromptPack, IsFullPack}
use Rattle.repo_backup.specs.PieceRules.{IsStandingOf}
use Rattle.repo_backup.specs.Pieces.{PieceStands, WorkStands, HasRoom, IsReady, reopened, at_beginning}
use Rattle.repo_backup.specs.Standings.{Standing, made_at}
use Rattle.repo_backup.specs.declared.piece_backing.PieceBacking.{PieceBacking}
use Rattle.repo_backup.specs.declared.piece_backing.PieceNext.{PieceNext}
use Rattle.repo_backup.specs.declared.piece_works.PieceWork.{PieceWork}
use Rattle.repo_backup.specs.declared.walks.Went.{Went}

-- a backup is made under a shared lock, by a config of a version that who makes it knows
abbrev pub piece_task : Asker → Task
piece_task who = record { who = who; exclusive = false; snapshot = None; versions = who.versions; notes = false }

-- ---- the work at a trace

-- how one pack is listed, or none is
abbrev pub listed_of : Option PackFacts → List PackFacts
listed_of None = []
listed_of (Some listed) = listed ∷ []

-- the packs that wait to be listed, the one that is being put at their end
abbrev pub waits : PieceBacking → List PackFacts
waits b = b.waiting ++ listed_of b.listed

-- it goes by the config
pub record GoesBy (config : Config) (w : PieceWork) : Type 0 where
  pub params : w.walk.params ≡ config.params
  pub version : w.walk.version ≡ config.version
  pub aim : w.packing.packer.target.bytes ≡ config.target
  pub aims : w.packing.packer.writer.target ≡ config.target

-- it stands where these items lead, which may be taken, or makes the parts of the directory that the newest of them closed: of the packs put, and of the one that is put next, if one is, these are the blobs; this pack is sealed
pub record StandsAt (facts : List Fact) (b : PieceBacking) (puts next : List Put) (sealed : List Item) (items : Feeding) (es : Trace) : Type 0 where
  pub config : Config
  pub st : Standing
  pub at : IsStandingOf items es config st
  pub taken : AreTaken items
  pub kept : NobodyGaveUp items
  pub goes_by : GoesBy config b.work
  pub stands : WorkStands b.work facts st (items_of (puts ++ next)) sealed
  pub opened : HasRoom b.work.walk.file b.work.packing
  pub ended : b.work.walk.root ≢ None → b.work.packing.packer.writer.items ≡ []
  pub written : HasWritten facts (waits b) b.counts puts next es

-- it stands where the items lead that were taken so far
abbrev pub PieceAt : List Fact → PieceBacking → List Put → List Put → List Item → Trace → Type 0
PieceAt facts b puts next sealed es = StandsAt facts b puts next sealed (fed_in es) es

-- ---- what is pending

-- it was begun by the config, and nothing was put
pub record HasBegun (b : PieceBacking) (es : Trace) : Type 0 where
  pub config : Config
  pub has : HasConfig es config
  pub none_put : (k : Kind) → objects_put k es ≡ []
  pub goes_by : GoesBy config b.work
  pub stands : (facts : List Fact) → PieceStands b.work facts at_beginning [] []
  pub ready : IsReady b.work
  pub waiting : b.waiting ≡ []
  pub listed : b.listed ≡ None
  pub counted : AreCounts b.counts []

-- and nothing was fed
abbrev pub NothingFed : PieceBacking → Trace → Type 0
NothingFed b es = HasBegun b es × (fed_in es ≡ [])

-- input is wanted
pub record PieceWaits (facts : List Fact) (b : PieceBacking) (es : Trace) : Type 0 where
  pub puts : List Put
  pub at : PieceAt facts b puts [] [] es
  pub ready : IsReady b.work
  pub listed : b.listed ≡ None
  pub room : length (facts_in b.waiting) < facts_limit

-- these items were taken, and a pack is being put
pub record PutsPack (facts : List Fact) (b : PieceBacking) (n : Name) (x : List ℕ) (items : Feeding) (es : Trace) : Type 0 where
  pub puts : List Put
  pub put : Put
  pub at : StandsAt facts b puts (put ∷ []) [] items es
  pub unsealed : b.work.packing.packer.sealed ≡ None
  pub pack_is : put.pack ≡ record { name = n; bytes = x }
  pub few : FewWait (waits b)

-- these items were taken, and an index of the packs that wait is being put
pub record PutsIndex (facts : List Fact) (b : PieceBacking) (x : List ℕ) (items : Feeding) (es : Trace) : Type 0 where
  pub puts : List Put
  pub at : StandsAt facts b puts [] [] items es
  pub unsealed : b.work.packing.packer.sealed ≡ None
  pub listed : b.listed ≡ None
  pub reads : IsIndexText x b.waiting

-- the snapshot is being put
pub record PutsSnapshot (facts : List Fact) (b : PieceBacking) (es : Trace) : Type 0 where
  pub puts : List Put
  pub written : HasWritten facts [] b.counts puts [] es

-- it works
abbrev pub AtPieces : Option PieceBacking → (PieceBacking → Type 0) → Type 0
AtPieces backing P = (b : PieceBacking) × (backing ≡ Some b) × P b

-- what is known while the indexes are read
abbrev pub KnowsPieceReading : Catalog → Option PieceBacking → Ask → Trace → Type 0
KnowsPieceReading c backing ask es = KnowsIndexes c ask es × AtPieces backing (λ b. NothingFed b es)

-- what is known while this is put
abbrev pub KnowsPiecePut : List Fact → Option PieceBacking → Ask → Trace → Type 0
KnowsPiecePut facts backing (Ask.Put token Kind.Pack n x) es = AtPieces backing (λ b. PutsPack facts b n x (fed_in es) es)
KnowsPiecePut facts backing (Ask.Put token Kind.Index n x) es = AtPieces backing (λ b. PutsIndex facts b x (fed_in es) es)
KnowsPiecePut facts backing (Ask.Put token Kind.Snapshot n x) es = AtPieces backing (λ b. PutsSnapshot facts b es)
KnowsPiecePut facts backing ask es = ⊥

-- what is known where this is pending, and where input is wanted
abbrev pub KnowsPieces : Catalog → Option PieceBacking → Ask → Trace → Type 0
KnowsPieces c backing ask es = KnowsPieceReading c backing ask es ⊎ KnowsPiecePut c.lookup backing ask es

abbrev pub WantsPieces : Catalog → Option PieceBacking → Trace → Type 0
WantsPieces c backing es = AtPieces backing (λ b. PieceWaits c.lookup b es)

-- ---- what the last reading can be taken back to

-- it goes by the same config
pub record IsSameWay (old new : PieceWork) : Type 0 where
  pub params : new.walk.params ≡ old.walk.params
  pub version : new.walk.version ≡ old.walk.version
  pub target : new.packing.packer.target ≡ old.packing.packer.target

-- it is begun anew, by the same config
pub record IsBegunAnew (old new : PieceBacking) : Type 0 where
  pub params : new.work.walk.params ≡ old.work.walk.params
  pub version : new.work.walk.version ≡ old.work.walk.version
  pub aim : new.work.packing.packer.target ≡ old.work.packing.packer.target
  pub aims : new.work.packing.packer.writer.target ≡ old.work.packing.packer.target.bytes
  pub stands : (facts : List Fact) → PieceStands new.work facts at_beginning [] []
  pub ready : IsReady new.work
  pub waiting : new.waiting ≡ []
  pub listed : new.listed ≡ None
  pub counted : AreCounts new.counts []

-- before the last reply of the reading came, which noted these facts: what is known by its request, and that nothing was fed
pub record WasRead (c : Catalog) (noted : List Fact) (w : PieceWork) (ask : Ask) (es : Trace) : Type 0 where
  pub old : Catalog
  pub facts : HasNotedFacts old noted c
  pub begun : PieceBacking
  pub way : IsSameWay begun.work w
  pub knows : KnowsIndexes old ask es
  pub none : NothingFed begun es

-- a page of names, or an object, is asked for
abbrev pub IsListedOrGot : Ask → Type 0
IsListedOrGot (Ask.List k after) = ⊤
IsListedOrGot (Ask.Get k n) = ⊤
IsListedOrGot ask = ⊥

-- if the newest exchange is of the reading, it can be taken back by the facts that it noted
abbrev pub CanUnread : Catalog → Option (List Fact) → PieceWork → Trace → Type 0
CanUnread c noted w [] = ⊤
CanUnread c None w (e ∷ es) = ¬ IsListedOrGot e.ask
CanUnread c (Some noted) w (e ∷ es) = IsListedOrGot e.ask → WasRead c noted w e.ask es

-- ---- what is sent next

-- after these items a pack is sealed and listed so, which wasn't full before its last blob, and is, or is the last one, and then no part of a directory is left
-- to be made
pub record IsDueAt (facts : List Fact) (b : PieceBacking) (listed : PackFacts) (items : Feeding) (es : Trace) : Type 0 where
  pub puts : List Put
  pub sealed : List Item
  pub at : StandsAt facts b puts [] sealed items es
  pub none : b.listed ≡ None
  pub lists : IsListed (Some listed) b.work.packing
  pub prompt : IsPromptPack es sealed
  pub full : IsFullPack es sealed ⊎ (((place_of items).over ≡ true) × (b.work.parts ≡ None))
  pub room : length (facts_in b.waiting) < facts_limit

-- after these items no pack is sealed or being put
pub record IsIdleAt (facts : List Fact) (b : PieceBacking) (items : Feeding) (es : Trace) : Type 0 where
  pub puts : List Put
  pub at : StandsAt facts b puts [] [] items es
  pub unsealed : b.work.packing.packer.sealed ≡ None
  pub listed : b.listed ≡ None
  pub few : FewWait b.waiting

-- and no part of a directory is left to be made
pub record IsDoneAt (facts : List Fact) (b : PieceBacking) (items : Feeding) (es : Trace) : Type 0 where
  pub idle : IsIdleAt facts b items es
  pub unlaid : b.work.parts ≡ None

-- after these items the text of a tree is too large
pub record IsLargeAt (b : PieceBacking) (items : Feeding) (es : Trace) : Type 0 where
  pub config : Config
  pub st : Standing
  pub at : IsStandingOf items es config st
  pub taken : AreTaken items
  pub version_is : b.work.walk.version ≡ config.version
  pub text : List ℕ
  pub made : Contains (made_at config.version st) (item_of Tree text)
  pub large : blob_limit < length text

-- by how far the work went after these items
abbrev pub WentAt : List Fact → Went → PieceBacking → Feeding → Trace → Type 0
WentAt facts Went.On b items es = IsDoneAt facts b items es
WentAt facts (Went.Pack listed) b items es = IsDueAt facts b listed items es
WentAt facts Went.TooLarge b items es = IsLargeAt b items es
WentAt facts Went.Nothing b items es = ⊥

-- by how far the parts that were left were made
abbrev pub LaidAt : List Fact → Went → PieceBacking → List Put → List Put → Feeding → Trace → Type 0
LaidAt facts Went.On b puts next items es = StandsAt facts b puts next [] items es × (b.work.packing.packer.sealed ≡ None)
LaidAt facts (Went.Pack listed) b puts next items es = (sealed : List Item) × StandsAt facts b puts next sealed items es × IsListed (Some listed) b.work.packing × IsPromptPack es sealed × (IsFullPack es sealed ⊎ (((place_of items).over ≡ true) × (b.work.parts ≡ None)))
LaidAt facts Went.TooLarge b puts next items es = IsLargeAt b items es
LaidAt facts Went.Nothing b puts next items es = ⊥

-- wherever one work stands, and no pack is sealed, the other does so
abbrev pub LaysSo : List Fact → PieceWork → Went → PieceWork → Type 0
LaysSo facts old went new = (b : PieceBacking) (puts next : List Put) (items : Feeding) (es : Trace) → b.work ≡ old → StandsAt facts b puts next [] items es → old.packing.packer.sealed ≡ None
    → LaidAt facts went (record b { work = new }) puts next items es

-- and after the items so far
abbrev pub IsPieceDue : List Fact → PieceBacking → PackFacts → Trace → Type 0
IsPieceDue facts b listed es = IsDueAt facts b listed (fed_in es) es

abbrev pub IsPieceDone : List Fact → PieceBacking → Trace → Type 0
IsPieceDone facts b es = IsDoneAt facts b (fed_in es) es

abbrev pub IsPieceIdle : List Fact → PieceBacking → Trace → Type 0
IsPieceIdle facts b es = IsIdleAt facts b (fed_in es) es

-- it is idle, and 20,000 blobs or more wait for an index
abbrev pub IsPieceFull : List Fact → PieceBacking → Trace → Type 0
IsPieceFull facts b es = IsPieceIdle facts b es × (facts_limit ≤ length (facts_in b.waiting))

abbrev pub IsPieceLarge : List Fact → PieceBacking → Trace → Type 0
IsPieceLarge facts b es = IsLargeAt b (fed_in es) es

abbrev pub PieceWent : List Fact → Went → PieceBacking → Trace → Type 0
PieceWent facts went b es = WentAt facts went b (fed_in es) es

-- what puts the snapshot of a tree, of this version, as it is written
pub record PutsSnapshotOf (holding : Holding) (root : Name) (version : ℕ) (step : Step) : Type 0 where
  pub text : List ℕ
  pub snapshot : Snapshot
  pub reads : IsSnapshotText text snapshot
  pub written : text ≡ snapshot_text snapshot
  pub host : snapshot.host ≡ holding.who.host
  pub time : snapshot.time ≡ holding.who.time
  pub token : snapshot.token ≡ holding.token
  pub tree : snapshot.tree ≡ root
  pub version_is : snapshot.version ≡ version
  pub puts : step ≡ Step.Ask (Ask.Put holding.token Kind.Snapshot (naming.name text) text)

-- an index, where 20,000 blobs or more wait, or as all ended, where one waits; then the snapshot; before that, more items
abbrev pub IsNextPiece : PieceBacking → PieceNext → Type 0
IsNextPiece b PieceNext.Index = (b.waiting ≢ []) × ((facts_limit ≤ length (facts_in b.waiting)) ⊎ (b.work.walk.root ≢ None))
IsNextPiece b (PieceNext.Snapshot root) = (b.waiting ≡ []) × (b.work.walk.root ≡ Some root)
IsNextPiece b PieceNext.Input = (length (facts_in b.waiting) < facts_limit) × (b.work.walk.root ≡ None)

-- how it ends where the text of a tree is too large, by the version of the config
abbrev pub large_end : ℕ → End
large_end (suc (suc zero)) = End.FileTooLarge
large_end _ = End.DirectoryTooLarge

-- its end is taken back
abbrev pub reopened_backing : PieceBacking → PieceBacking
reopened_backing b = record b { work = reopened b.work }
