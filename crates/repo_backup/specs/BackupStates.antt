-- What is known while a backup is made.
use Rattle.std.specs.Prelude.{◌≡◌, ◌⊎◌, ◌<◌, ◌≤◌, [], true, false, List, length, Option, Some, None}
use Rattle.repo_name.specs.Limits.{facts_limit}
use Rattle.repo_name.specs.declared.kinds.Kind.{Kind}
use Rattle.repo_index.specs.IndexText.{facts_in}
use Rattle.repo_index.specs.declared.facts.Fact.{Fact}
use Rattle.repo_index.specs.declared.facts.PackFacts.{PackFacts}
use Rattle.repo_pack.specs.PackLayout.{Item}
use Rattle.repo_session.specs.Askers.{Asker}
use Rattle.repo_session.specs.Feeds.{Fed}
use Rattle.repo_session.specs.Order.{Task}
use Rattle.repo_session.specs.Traces.{Trace}
use Rattle.repo_tree.specs.declared.entries.Entry.{Entry}
use Rattle.repo_wire.specs.declared.messages.Ask.{Ask}
use Rattle.repo_writing.specs.Writing.{Put, AreCounts, FewWait}
use Rattle.repo_writing.specs.Filling.{IsPromptPack, IsFullPack}
use Rattle.repo_backup.specs.Items.{Feeding, place_of}
use Rattle.repo_backup.specs.Packings.{IsListed}
use Rattle.repo_backup.specs.PieceStates.{StandsAt, PutsPack, PutsIndex, PutsSnapshot, AtPieces}
use Rattle.repo_backup.specs.Pieces.{PieceStands, IsReady, at_beginning}
use Rattle.repo_backup.specs.Plans.{LeadThrough}
use Rattle.repo_backup.specs.Rules.{IsTooLarge}
use Rattle.repo_backup.specs.declared.piece_backing.PieceBacking.{PieceBacking}
use Rattle.repo_backup.specs.declared.piece_works.PieceWork.{PieceWork}
use Rattle.repo_backup.specs.declared.walks.Went.{Went}

-- a backup is made under a shared lock, by a config of a version that who makes it knows
abbrev pub backup_task : Asker → Task
backup_task who = record { who = who; exclusive = false; snapshot = None; versions = who.versions; notes = false }

-- ---- the work over the steps

-- some first items were fed, and no pack is sealed; with these that are left they lead through the entries
pub record IsUnderWay (entries : List Entry) (facts : List Fact) (b : PieceBacking) (left : List Fed) (puts next : List Put) (es : Trace) : Type 0 where
  pub items : Feeding
  pub leads : LeadThrough entries left items
  pub at : StandsAt facts b puts next [] items es
  pub unsealed : b.work.packing.packer.sealed ≡ None

-- some were, and a pack is sealed and listed so, which wasn't full before its last blob, and is, or is the last one, and then no part of a directory is left to be
-- made
pub record IsPackSealed (entries : List Entry) (facts : List Fact) (b : PieceBacking) (left : List Fed) (listed : PackFacts) (puts next : List Put) (es : Trace) : Type 0 where
  pub items : Feeding
  pub leads : LeadThrough entries left items
  pub sealed : List Item
  pub at : StandsAt facts b puts next sealed items es
  pub lists : IsListed (Some listed) b.work.packing
  pub prompt : IsPromptPack es sealed
  pub full : IsFullPack es sealed ⊎ (((place_of items).over ≡ true) × (b.work.parts ≡ None))

-- by how far it went
abbrev pub WentSo : List Entry → List Fact → Went → PieceBacking → List Fed → List Put → List Put → Trace → Type 0
WentSo entries facts Went.On b left puts next es = IsUnderWay entries facts b left puts next es
WentSo entries facts (Went.Pack listed) b left puts next es = IsPackSealed entries facts b left listed puts next es
WentSo entries facts Went.TooLarge b left puts next es = IsTooLarge b.work.walk.version entries es
WentSo entries facts Went.Nothing b left puts next es = ⊥

-- wherever one work is under way, the other went so
abbrev pub GoesSo : List Fact → PieceWork → List Fed → Went → PieceWork → List Fed → Type 0
GoesSo facts old was went new left = (entries : List Entry) (b : PieceBacking) (puts next : List Put) (es : Trace) → b.work ≡ old → IsUnderWay entries facts b was puts next es
    → WentSo entries facts went (record b { work = new }) left puts next es

-- ---- what is pending

-- some items were fed, and a pack is being put, or an index
abbrev pub BackupPuts : List Entry → List Fed → (Feeding → Type 0) → Type 0
BackupPuts entries left Puts = (items : Feeding) × LeadThrough entries left items × Puts items

-- what is known while this is put
abbrev pub KnowsPut : List Entry → List Fact → Option PieceBacking → List Fed → Ask → Trace → Type 0
KnowsPut entries facts backing left (Ask.Put token Kind.Pack n x) es = AtPieces backing (λ b. BackupPuts entries left (λ items. PutsPack facts b n x items es))
KnowsPut entries facts backing left (Ask.Put token Kind.Index n x) es = AtPieces backing (λ b. BackupPuts entries left (λ items. PutsIndex facts b x items es))
KnowsPut entries facts backing left (Ask.Put token Kind.Snapshot n x) es = AtPieces backing (λ b. PutsSnapshot facts b es)
KnowsPut entries facts backing left ask es = ⊥

-- ---- what is sent next

-- no pack is being put, and the work went so; where it went on, all was fed, and no part is left to be made
pub record IsDueNext (entries : List Entry) (facts : List Fact) (went : Went) (b : PieceBacking) (left : List Fed) (es : Trace) : Type 0 where
  pub puts : List Put
  pub goes : WentSo entries facts went b left puts [] es
  pub none : b.listed ≡ None
  pub all : went ≡ Went.On → left ≡ []
  pub unlaid : went ≡ Went.On → b.work.parts ≡ None
  pub room : length (facts_in b.waiting) < facts_limit

-- no pack is being put, and the work is under way
pub record IsGoingOn (entries : List Entry) (facts : List Fact) (b : PieceBacking) (left : List Fed) (es : Trace) : Type 0 where
  pub puts : List Put
  pub goes : IsUnderWay entries facts b left puts [] es
  pub none : b.listed ≡ None
  pub few : FewWait b.waiting

-- and 20,000 blobs or more wait for an index
abbrev pub IsFullNow : List Entry → List Fact → PieceBacking → List Fed → Trace → Type 0
IsFullNow entries facts b left es = IsGoingOn entries facts b left es × (facts_limit ≤ length (facts_in b.waiting))
