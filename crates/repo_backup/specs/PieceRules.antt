-- What a backup that is fed items may put, and how it may end.
use Rattle.std.specs.Prelude.{◌≡◌, ◌<◌, ◌≤◌, ◌⊎◌, ◌∷◌, [], ⊤, true, false, ℕ, List, length, None, Contains}
use Rattle.repo_name.specs.Limits.{blob_limit}
use Rattle.repo_name.specs.declared.kinds.BlobKind.TheVariants.{Tree}
use Rattle.repo_name.specs.declared.kinds.Kind.{Kind}
use Rattle.repo_pack.specs.PackLayout.{Item, item_of, IsTruePack}
use Rattle.repo_pack.specs.PackWriting.{IsOpen}
use Rattle.repo_session.specs.Catalogs.{AreIndexed}
use Rattle.repo_session.specs.Feeds.{fed_abandon}
use Rattle.repo_session.specs.Jobs.{Rule}
use Rattle.repo_session.specs.Order.{ReadsKind}
use Rattle.repo_session.specs.Traces.{Trace, fed_in, objects_put, IsGiven}
use Rattle.repo_session.specs.declared.outcomes.End.{End}
use Rattle.repo_session.specs.declared.outcomes.Outcome.{Outcome}
use Rattle.repo_session.specs.declared.versions.Versions.{Versions}
use Rattle.repo_tree.specs.declared.configs.Config.{Config}
use Rattle.repo_wire.specs.declared.messages.Ask.{Ask}
use Rattle.repo_writing.specs.Blobs.{AreOnce, HasItem}
use Rattle.repo_writing.specs.Putting.{AreDone, IsPacked}
use Rattle.repo_writing.specs.Filling.{HasConfig, IsPromptPack, IsFullPack, IsFullIndex}
use Rattle.repo_writing.specs.Writing.{ListsEachPack, FewAreUnlisted}
use Rattle.repo_backup.specs.Items.{Feeding, NobodyGaveUp, AreTaken, place_of, spelled_by}
use Rattle.repo_backup.specs.Rules.{IsInOrder, IndexRule, SnapshotRule, IsStored}
use Rattle.repo_backup.specs.Standings.{Standing, LeadTo, made_at}

-- by the config that was read, these items lead here, in chunks
pub record IsStandingOf (items : Feeding) (es : Trace) (config : Config) (st : Standing) : Type 0 where
  pub has : HasConfig es config
  pub lead : LeadTo config.params items st

-- the items so far do
abbrev pub IsStandingAt : Trace → Config → Standing → Type 0
IsStandingAt es config st = IsStandingOf (fed_in es) es config st

-- the blob was made of the items so far
abbrev pub IsMadeSoFar : Trace → Item → Type 0
IsMadeSoFar es item = (config : Config) × (st : Standing) × IsStandingAt es config st × Contains (made_at config.version st) item

-- the pack goes on in the order in which the blobs of the items so far were made
abbrev pub IsInOrderSoFar : Trace → List Item → Type 0
IsInOrderSoFar es items = (config : Config) × (st : Standing) × IsStandingAt es config st × IsInOrder es (made_at config.version st) items

-- the items ended
abbrev pub AreOver : Trace → Type 0
AreOver es = (place_of (fed_in es)).over ≡ true

-- nothing more waits to be packed: the items ended, and each blob made of them is given by an index that was read, is in a pack that was put, or is among these
pub record PieceAreLast (es : Trace) (items : List Item) : Type 0 where
  pub over : AreOver es
  pub config : Config
  pub st : Standing
  pub at : IsStandingAt es config st
  pub all : (item : Item) → Contains (made_at config.version st) item → IsGiven es item.kind item.name ⊎ (IsPacked es item.kind item.name ⊎ HasItem items item.kind item.name)

-- a pack may be put: every index was read, no snapshot was put, and no index is due; nobody gave up; it is a true pack, of blobs made of the items so far, each once, which no index read gives, and
-- no pack put before has, in the order in which they were made; and by the config that was read it wasn't full before its last blob, and is with it, or nothing more waits
pub record PiecePackRule (es : Trace) (x : List ℕ) : Type 0 where
  pub indexes : AreIndexed es
  pub first : objects_put Kind.Snapshot es ≡ []
  pub unlisted : FewAreUnlisted es
  pub taken : AreTaken (fed_in es)
  pub kept : NobodyGaveUp (fed_in es)
  pub items : List Item
  pub pack : IsTruePack x items
  pub made : (item : Item) → Contains items item → IsMadeSoFar es item
  pub order : IsInOrderSoFar es items
  pub once : AreOnce items
  pub unread : (item : Item) → Contains items item → ¬ IsGiven es item.kind item.name
  pub unput : (item : Item) → Contains items item → ¬ IsPacked es item.kind item.name
  pub prompt : IsPromptPack es items
  pub full : IsFullPack es items ⊎ PieceAreLast es items

-- what it may ask for: before it was fed it reads indexes, each once; it puts packs, and while nobody gave up indexes with which the indexes put list each pack put, which are full, or as the items ended
-- the last one; and a snapshot of the entries that the items spell, once they ended
abbrev pub PieceAllows : Trace → Ask → Type 0
PieceAllows es (Ask.Put token Kind.Pack n x) = PiecePackRule es x
PieceAllows es (Ask.Put token Kind.Index n x) = (rule : IndexRule es x) × NobodyGaveUp (fed_in es) × ListsEachPack rule.lists.packs es × (IsFullIndex x ⊎ PieceAreLast es [])
PieceAllows es (Ask.Put token Kind.Snapshot n x) = AreOver es × AreTaken (fed_in es) × SnapshotRule (spelled_by (fed_in es)) es token x
PieceAllows es (Ask.Delete token k n) = ⊥
PieceAllows es (Ask.Upgrade token) = ⊥
PieceAllows es ask = ReadsKind Kind.Index es ask × (fed_in es ≡ [])

-- by a config of this version, the text of a tree is too large: in version 2 that of a part
pub record PieceTooLarge (version : ℕ) (es : Trace) : Type 0 where
  pub taken : AreTaken (fed_in es)
  pub config : Config
  pub st : Standing
  pub at : IsStandingAt es config st
  pub of_version : config.version ≡ version
  pub text : List ℕ
  pub made : Contains (made_at config.version st) (item_of Tree text)
  pub large : blob_limit < length text

-- somebody gave up, by the newest item
abbrev pub WasGivenUp : Feeding → Type 0
WasGivenUp [] = ⊥
WasGivenUp (fed_abandon ∷ items) = ⊤
WasGivenUp (item ∷ items) = ⊥

-- how it may end: with a directory too large in version 1 alone, and with a file too large in version 2 alone
abbrev pub PieceConcludes : Trace → Outcome → Type 0
PieceConcludes es (Outcome.Stored name blobs bytes) = IsStored es name blobs bytes
PieceConcludes es (Outcome.Ended End.DirectoryTooLarge) = PieceTooLarge 1 es
PieceConcludes es (Outcome.Ended End.FileTooLarge) = PieceTooLarge 2 es
PieceConcludes es (Outcome.Ended End.Abandoned) = AreTaken (fed_in es) × WasGivenUp (fed_in es)
PieceConcludes es _ = ⊥

-- no pack is due: each blob made of the items so far is given by an index that was read, is in a pack that was put, or is among some that were made of them, none of them too large for a pack,
-- with which a pack as large as the config wants is open
pub record NoPackIsDue (es : Trace) : Type 0 where
  pub config : Config
  pub st : Standing
  pub at : IsStandingAt es config st
  pub items : List Item
  pub made : (item : Item) → Contains items item → Contains (made_at config.version st) item
  pub all : (item : Item) → Contains (made_at config.version st) item → IsGiven es item.kind item.name ⊎ (IsPacked es item.kind item.name ⊎ HasItem items item.kind item.name)
  pub fits : (item : Item) → Contains items item → length item.bytes ≤ blob_limit
  pub room : IsOpen (record { items = items; target = config.target })

-- it may want input: every index was read, the items may be taken, they haven't ended, and nobody gave up; all that was put is done, and neither a pack nor an index is due
pub record WantsInput (es : Trace) : Type 0 where
  pub indexes : AreIndexed es
  pub taken : AreTaken (fed_in es)
  pub goes_on : (place_of (fed_in es)).over ≡ false
  pub kept : NobodyGaveUp (fed_in es)
  pub done : AreDone es
  pub unpacked : NoPackIsDue es
  pub unlisted : FewAreUnlisted es

-- the rule; a refusal takes it no memory
abbrev pub piece_rule : Rule
piece_rule = record { exclusive = false; snapshot = None; versions = Versions.Both; notes = false; calm = ⊤; allows = PieceAllows; gives = λ es e. ⊥; concludes = PieceConcludes; wanting = WantsInput }
