-- What a reply brings of a thing that was asked for.
use Rattle.std.specs.Prelude.{◌≡◌, ◌≢◌, ◌⊎◌, ◌<◌, [], ℕ, List, length, Some}
use Rattle.repo_name.specs.Limits.{contents_limit}
use Rattle.repo_name.specs.Naming as naming
use Rattle.repo_name.specs.declared.kinds.Kind.{Kind}
use Rattle.repo_name.specs.declared.names.Name.{Name}
use Rattle.repo_wire.specs.declared.messages.Ask.{Ask}
use Rattle.repo_wire.specs.declared.messages.Code.{Code}
use Rattle.repo_wire.specs.declared.messages.Say.{Say}
use Rattle.repo_pack.specs.PackLayout.{Item, IsTruePack, blobs_of}
use Rattle.repo_index.specs.Exactness.{AreFactsAt}
use Rattle.repo_index.specs.IndexText.{IsIndexText}
use Rattle.repo_index.specs.declared.facts.Fact.{Fact}
use Rattle.repo_index.specs.declared.facts.PackFacts.{PackFacts}
use Rattle.repo_reach.specs.Collected.{root_of}
use Rattle.repo_reach.specs.declared.roots.Root.{Root}
use Rattle.repo_tree.specs.SnapshotText.{IsSnapshotText}
use Rattle.repo_tree.specs.declared.faults.TextError.{TextError}
use Rattle.repo_tree.specs.declared.snapshots.Snapshot.{Snapshot}
use Rattle.repo_session.specs.Versions.{upto}
use Rattle.repo_session.specs.declared.versions.Versions.{Versions}
use Rattle.repo_session.specs.Ends.{IsOfOtherVersion, IsUnwelcome, TellsFault}
use Rattle.repo_session.specs.declared.outcomes.FaultKind.{FaultKind}
use Rattle.repo_check.specs.Answers.{Answer, Gathered, IsAnswer}
use Rattle.repo_check.specs.Findings.{ObjectIs}
use Rattle.repo_check.specs.declared.arrivals.Arrival.{Arrival}
use Rattle.repo_check.specs.declared.objects.IndexLook.{IndexLook}
use Rattle.repo_check.specs.declared.objects.PackLook.{PackLook}
use Rattle.repo_check.specs.declared.objects.SnapshotLook.{SnapshotLook}

-- a refusal, or a reply of another sort, that tells nothing of what was asked for
abbrev pub TellsNothing : Ask → Say → Type 0
TellsNothing ask say = IsUnwelcome ask say × ¬ TellsFault ask say

-- bytes of the name; others; none, as it isn't there; or the reply is another refusal, or of another sort
abbrev pub ArrivesAs : Kind → Name → Say → Arrival → Type 0
ArrivesAs k n say (Arrival.Named bytes) = (say ≡ Say.Bytes bytes.now) × (naming.name bytes.now ≡ n)
ArrivesAs k n say Arrival.Misnamed = (x : List ℕ) × (say ≡ Say.Bytes x) × (naming.name x ≢ n)
ArrivesAs k n say Arrival.Absent = say ≡ Say.Refused Code.Missing
ArrivesAs k n say Arrival.Unwelcome = TellsNothing (Ask.Get k n) say

-- the answer's bytes have its name
abbrev pub AnswersBytes : Answer → List ℕ → Type 0
AnswersBytes a x = (a.bytes ≡ Some x) × (naming.name x ≡ a.name)

-- the answer is at fault by itself, whatever else came
abbrev pub IsFaulty : Kind → Answer → FaultKind → Type 0
IsFaulty k a FaultKind.Place = ⊥
IsFaulty k a what = (answers : Gathered) → ObjectIs answers k a (Some what)

-- it is a snapshot with this root
abbrev pub IsRootOf : Answer → Root → Type 0
IsRootOf a root = (x : List ℕ) × (snapshot : Snapshot) × AnswersBytes a x × IsSnapshotText x snapshot × (root_of snapshot.tree snapshot.version ≡ root)

-- it is the index of these packs
abbrev pub IsIndexOf : Answer → List PackFacts → Type 0
IsIndexOf a packs = (x : List ℕ) × AnswersBytes a x × IsIndexText x packs

-- the facts of a pack of these items; none where the blobs end beyond all places that an index can list
abbrev pub AreToldOf : Name → List Item → List Fact → Type 0
AreToldOf pack items facts = AreFactsAt pack items facts ⊎ ((facts ≡ []) × (contents_limit < length (blobs_of items)))

-- it is a pack with these facts
abbrev pub IsPackOf : Answer → List Fact → Type 0
IsPackOf a facts = (x : List ℕ) × (items : List Item) × AnswersBytes a x × IsTruePack x items × AreToldOf a.name items facts

-- what a reply tells of a snapshot, to who knows these versions: a root, or a fault, only where it brings none of a version that isn't known
abbrev pub LooksAtSnapshot : Versions → Name → Say → SnapshotLook → Type 0
LooksAtSnapshot versions n say (SnapshotLook.Root root) = (a : Answer) × IsAnswer n say a × IsRootOf a root × ¬ IsOfOtherVersion (upto versions) (Ask.Get Kind.Snapshot n) say
LooksAtSnapshot versions n say (SnapshotLook.Fault what) = (a : Answer) × IsAnswer n say a × IsFaulty Kind.Snapshot a what × ¬ IsOfOtherVersion (upto versions) (Ask.Get Kind.Snapshot n) say
LooksAtSnapshot versions n say SnapshotLook.Version = IsOfOtherVersion (upto versions) (Ask.Get Kind.Snapshot n) say
LooksAtSnapshot versions n say SnapshotLook.Unwelcome = TellsNothing (Ask.Get Kind.Snapshot n) say

-- why a snapshot can't be read, and what is told of it then
abbrev pub MisreadAs : TextError → SnapshotLook → Type 0
MisreadAs error SnapshotLook.Version = error ≡ TextError.Version
MisreadAs error (SnapshotLook.Fault what) = (what ≡ FaultKind.Unreadable) × (error ≢ TextError.Memory) × (error ≢ TextError.Version)
MisreadAs error _ = ⊥

-- of an index
abbrev pub LooksAtIndex : Name → Say → IndexLook → Type 0
LooksAtIndex n say (IndexLook.Read packs) = (a : Answer) × IsAnswer n say a × IsIndexOf a packs
LooksAtIndex n say (IndexLook.Fault what) = (a : Answer) × IsAnswer n say a × IsFaulty Kind.Index a what
LooksAtIndex n say IndexLook.Unwelcome = TellsNothing (Ask.Get Kind.Index n) say

-- of a pack
abbrev pub LooksAtPack : Name → Say → PackLook → Type 0
LooksAtPack n say (PackLook.Read facts) = (a : Answer) × IsAnswer n say a × IsPackOf a facts
LooksAtPack n say (PackLook.Fault what) = (a : Answer) × IsAnswer n say a × IsFaulty Kind.Pack a what
LooksAtPack n say PackLook.Unwelcome = TellsNothing (Ask.Get Kind.Pack n) say
