-- What holds of what a check tells, by the definitions alone.
use Rattle.std.specs.Prelude.{◌≡◌, ◌↔◌, [], ℕ, List, Option, Some, Contains}
use Rattle.repo_name.specs.Naming as naming
use Rattle.repo_name.specs.Ranges.{range}
use Rattle.repo_name.specs.declared.kinds.BlobKind.{BlobKind}
use Rattle.repo_name.specs.declared.kinds.Kind.{Kind}
use Rattle.repo_name.specs.declared.kinds.Thing.{Thing}
use Rattle.repo_name.specs.declared.names.Name.{Name}
use Rattle.repo_index.specs.declared.facts.Fact.{Fact}
use Rattle.repo_tree.specs.SnapshotText.{IsSnapshotText}
use Rattle.repo_tree.specs.Spelling.{Reach}
use Rattle.repo_tree.specs.declared.snapshots.Snapshot.{Snapshot}
use Rattle.repo_store.specs.Stores.{Objects}
use Rattle.repo_wire.specs.declared.messages.Ask.{Ask}
use Rattle.repo_wire.specs.declared.messages.Reply.{Reply}
use Rattle.repo_wire.specs.declared.messages.Say.{Say}
use Rattle.repo_session.specs.declared.outcomes.CheckFault.{CheckFault}
use Rattle.repo_session.specs.declared.outcomes.FaultKind.{FaultKind}
use Rattle.repo_session.specs.declared.outcomes.Outcome.{Outcome}
use Rattle.repo_session.specs.Ends.{before_unlock}
use Rattle.repo_session.specs.Sessions.{next_in, ended_in, who_in}
use Rattle.repo_session.specs.Soundness.{IsHeld, IsSound}
use Rattle.repo_session.specs.Talks.{Talk, trace_of, TookEach, CameIn}
use Rattle.repo_session.specs.Traces.{Exchanged, Trace}
use Rattle.repo_check.specs.Findings.{IsFitting, IsMisplaced}
use Rattle.repo_check.specs.Fitting.{FactsOfPacks, AreKnown, Fits, Misfits}
use Rattle.repo_index.specs.IndexText.{IsIndexText}
use Rattle.repo_index.specs.declared.facts.PackFacts.{PackFacts}
use Rattle.repo_check.specs.Answers.{Answer, Gathered, GivesFact, IsReachedBlob}
use Rattle.repo_check.specs.CheckStates.{FitsCheck}
use Rattle.repo_check.specs.Checking.{IsFaultOf, IsFound, AreWell, IsClean, IsAtFault, AreAnswers}
use Rattle.repo_session.specs.declared.sessions.Session.{Session}
use Rattle.repo_check.specs.declared.checks.Check.{Check}

-- the objects that came, under the names for which they came
abbrev pub AreObjects : Gathered → Objects → Type 0
AreObjects answers objects = (k : Kind) (n : Name) (x : List ℕ) → (objects k n ≡ Some x) ↔ Contains (answers.objects k) (record { name = n; bytes = Some x })

-- the byte lists of which no two may have one name: objects and trees that came, and what lies in packs at the places that indexes give
pub data IsSpoken (answers : Gathered) (x : List ℕ) : Type 0 where
  of_object : (k : Kind) (n : Name) → Contains (answers.objects k) (record { name = n; bytes = Some x }) → IsSpoken answers x
  of_tree : (n : Name) → Contains answers.trees (record { name = n; bytes = Some x }) → IsSpoken answers x
  of_pack : (fact : Fact) (pack : List ℕ) → GivesFact answers fact → Contains (answers.objects Kind.Pack) (record { name = fact.place.pack; bytes = Some pack })
      → range pack fact.place.offset fact.place.length ≡ Some x → IsSpoken answers x

-- no two of these have one name
abbrev pub HasNoClash : Gathered → Type 0
HasNoClash answers = (x y : List ℕ) → IsSpoken answers x → IsSpoken answers y → naming.name x ≡ naming.name y → x ≡ y

-- where all things are well, the objects that came are a sound store
abbrev pub WellIsSound : Type 0
WellIsSound = (answers : Gathered) (objects : Objects) → AreWell answers → AreObjects answers objects → HasNoClash answers → IsSound objects

-- so they are where a check is clean
abbrev pub CleanIsSound : Type 0
CleanIsSound = (es : Trace) (snapshots indexes packs blobs : ℕ) (objects : Objects) (clean : IsClean es snapshots indexes packs blobs)
    → AreObjects clean.answers objects → HasNoClash clean.answers → IsSound objects

-- a snapshot among the objects reaches the pair in the blobs held
pub record IsReachedIn (objects : Objects) (k : BlobKind) (n : Name) : Type 0 where
  pub name : Name
  pub text : List ℕ
  pub snapshot : Snapshot
  pub there : objects Kind.Snapshot name ≡ Some text
  pub reads : IsSnapshotText text snapshot
  pub reaches : Reach snapshot.version (IsHeld objects) snapshot.tree k n

-- where a check is clean, the pairs that are reached in what came, which it counts, are just those that snapshots among the objects reach in the blobs held
abbrev pub CleanCountsReached : Type 0
CleanCountsReached = (es : Trace) (snapshots indexes packs blobs : ℕ) (objects : Objects) (clean : IsClean es snapshots indexes packs blobs)
    → AreObjects clean.answers objects → HasNoClash clean.answers → (k : BlobKind) (n : Name) → IsReachedBlob clean.answers k n ↔ IsReachedIn objects k n

-- one thing is found of each: that it is well, or one fault
abbrev pub FoundOnce : Type 0
FoundOnce = (es : Trace) (answers : Gathered) → AreAnswers es answers → (thing : Thing) (n : Name) (one other : Option FaultKind)
    → IsFound answers thing n one → IsFound answers thing n other → one ≡ other

-- one thing was said of each object, however often it was asked for
abbrev pub HeardOnce : Type 0
HeardOnce = (es : Trace) (answers : Gathered) → AreAnswers es answers → (k : Kind) (n : Name) (one other : Say) → Exchanged es (Ask.Get k n) one → Exchanged es (Ask.Get k n) other → one ≡ other

-- an index that reads is found well, or misplaced, by what is known of the packs
abbrev pub FitsAsFound : Type 0
FitsAsFound = (answers : Gathered) (packs : FactsOfPacks) (x : List ℕ) (text : List PackFacts) → AreKnown answers packs
    → ((a b : Answer) → Contains (answers.objects Kind.Pack) a → Contains (answers.objects Kind.Pack) b → a.name ≡ b.name → a ≡ b)
    → IsIndexText x text → (Fits text packs → IsFitting answers Kind.Index x) × (Misfits text packs → IsMisplaced answers Kind.Index x)

-- where all things are well, none is at fault
abbrev pub WellHasNoFault : Type 0
WellHasNoFault = (es : Trace) (answers : Gathered) → AreAnswers es answers → AreWell answers → (fault : CheckFault) → ¬ IsFaultOf answers fault

-- ---- whatever the replies

-- a check whose ticket was pending had these replies, whoever sent them and whatever they say, and took these turns of them
pub record CheckTook (old : Session Check) (replies : List Reply) (talk : Talk) (new : Session Check) : Type 0 where
  pub begins : FitsCheck old []
  pub took : TookEach (who_in old).instance FitsCheck (λ s. next_in s) old replies talk new

-- where it is clean, all that a check has to receive was received, in those replies, and is well
abbrev pub CleanIsWhatCame : Type 0
CleanIsWhatCame = (old new : Session Check) (replies : List Reply) (talk : Talk) (snapshots indexes packs blobs : ℕ) → CheckTook old replies talk new
    → ended_in new ≡ Some (Outcome.Clean snapshots indexes packs blobs) → CameIn replies (trace_of talk) × IsClean (before_unlock (trace_of talk)) snapshots indexes packs blobs

-- where it tells faults, all of it was received, in those replies; each that it tells is at fault there, and nothing that is at fault there is left out
abbrev pub FaultsAreWhatCame : Type 0
FaultsAreWhatCame = (old new : Session Check) (replies : List Reply) (talk : Talk) (faults : List CheckFault) → CheckTook old replies talk new → ended_in new ≡ Some (Outcome.Faults faults)
    → CameIn replies (trace_of talk) × IsAtFault (before_unlock (trace_of talk)) faults
