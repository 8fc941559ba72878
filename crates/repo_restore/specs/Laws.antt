-- What holds of a restore and of a list that are alone with their store, and of a restore whatever the replies, by the definitions alone.
use Rattle.std.specs.Prelude.{◌≡◌, ◌⊎◌, ◌<◌, ◌^◌, ◌-◌, ◌++◌, ◌∷◌, [], ⊤, ℕ, Bool, true, false, List, length, Option, Some, None, Contains}
use Rattle.repo_name.specs.declared.kinds.BlobKind.{BlobKind}
use Rattle.repo_name.specs.declared.kinds.Kind.{Kind}
use Rattle.repo_name.specs.declared.names.Name.{Name}
use Rattle.repo_wire.specs.declared.messages.Code.{Code}
use Rattle.repo_wire.specs.declared.messages.Reply.{Reply}
use Rattle.repo_wire.specs.declared.messages.Request.{Request}
use Rattle.repo_store.specs.Laws.{greatest_count}
use Rattle.repo_store.specs.Stores.{Store}
use Rattle.repo_tree.specs.declared.entries.Entry.{Entry}
use Rattle.repo_tree.specs.declared.snapshots.Snapshot.{Snapshot}
use Rattle.repo_tree.specs.Laws.{Agree}
use Rattle.repo_tree.specs.Parts.{Blobs}
use Rattle.repo_tree.specs.SnapshotText.{IsSnapshotText}
use Rattle.repo_tree.specs.Spelling.{Spells, Reach, file_entry}
use Rattle.repo_session.specs.Versions.{upto}
use Rattle.repo_session.specs.Alone.{IsFit, AreVersionsUpto, IsSent, IsSpoken, NoClash}
use Rattle.repo_session.specs.Askers.{Asker}
use Rattle.repo_session.specs.Clients.{IsObedientBy}
use Rattle.repo_session.specs.Ends.{before_unlock}
use Rattle.repo_session.specs.Rebuilding.{rebuilt, Follow}
use Rattle.repo_session.specs.Sessions.{next_in, ended_in, who_in}
use Rattle.repo_session.specs.Soundness.{IsHeld, IsSound}
use Rattle.repo_session.specs.Received.{Received}
use Rattle.repo_session.specs.Talks.{Talk, trace_of, given_in, TalkRan, MayBeAhead, TookEach, CameIn}
use Rattle.repo_session.specs.Traces.{Trace, emitted_in}
use Rattle.repo_session.specs.Trees.{HasRoot}
use Rattle.repo_session.specs.declared.emissions.Emission.{Emission}
use Rattle.repo_session.specs.declared.outcomes.End.{End}
use Rattle.repo_session.specs.declared.outcomes.Outcome.{Outcome}
use Rattle.repo_restore.specs.Listing.{list_task, list_rule}
use Rattle.repo_restore.specs.Beginnings.{SpellsFirst, IsBeginning}
use Rattle.repo_restore.specs.Positions.{IsNextBlob}
use Rattle.repo_restore.specs.Restoring.{Wish, restore_task, MayGive, IsFileAt, IsRestored, restore_rule}
use Rattle.repo_restore.specs.RestoreStates.{FitsRestore, wish_of}
use Rattle.repo_restore.specs.Walks.{ArePieces}
use Rattle.repo_session.specs.declared.sessions.Session.{Session}
use Rattle.repo_restore.specs.declared.restores.Restore.{Restore}

-- these exchanges, what is pending and the outcome are a restore's
abbrev pub IsRestore : Wish → Option Request → Option Outcome → Trace → Type 0
IsRestore w next outcome es = IsObedientBy (restore_rule w.snapshot) w.who next outcome es

-- these are a list's
abbrev pub IsList : Asker → Option Request → Option Outcome → Trace → Type 0
IsList who next outcome es = IsObedientBy list_rule who next outcome es

-- a restore, or a list, changes no object of the store, also where it is one step ahead
abbrev pub RestoreChangesNothing : Type 0
RestoreChangesNothing = (w : Wish) (from mid to : Store) (failed failing : ℕ) (talk : Talk) (next : Option Request) (outcome : Option Outcome)
    → TalkRan from failed talk mid failing → MayBeAhead mid next to → IsRestore w next outcome (trace_of talk) → to.objects ≡ from.objects

abbrev pub ListChangesNothing : Type 0
ListChangesNothing = (who : Asker) (from mid to : Store) (failed failing : ℕ) (talk : Talk) (next : Option Request) (outcome : Option Outcome)
    → TalkRan from failed talk mid failing → MayBeAhead mid next to → IsList who next outcome (trace_of talk) → to.objects ≡ from.objects

-- a list alone with a store in which it finds all that it wants, and whose device doesn't fail, is listed at its end, or the store had no memory
abbrev pub IsListedOrMemory : Option Outcome → Type 0
IsListedOrMemory None = ⊥
IsListedOrMemory (Some (Outcome.Listed rows)) = ⊤
IsListedOrMemory (Some outcome) = outcome ≡ Outcome.Ended (End.Refused Code.NoMemory)

abbrev pub ListEndsWell : Type 0
ListEndsWell = (who : Asker) (from to : Store) (failed : ℕ) (talk : Talk) (outcome : Option Outcome)
    → IsFit from → AreVersionsUpto (upto (list_task who).versions) from → failed < greatest_count → TalkRan from failed talk to failed → length talk < 2 ^ 64 - 1 → IsList who None outcome (trace_of talk) → IsListedOrMemory outcome

-- a restore of a snapshot that is there, alone with such a store, is complete at its end, or the store had no memory
abbrev pub IsCompleteOrMemory : Option Outcome → Type 0
IsCompleteOrMemory None = ⊥
IsCompleteOrMemory (Some (Outcome.Complete count)) = ⊤
IsCompleteOrMemory (Some outcome) = outcome ≡ Outcome.Ended (End.Refused Code.NoMemory)

abbrev pub RestoreEndsWell : Type 0
RestoreEndsWell = (w : Wish) (from to : Store) (failed : ℕ) (talk : Talk) (outcome : Option Outcome) (text : List ℕ)
    → IsFit from → AreVersionsUpto (upto (restore_task w).versions) from → from.objects Kind.Snapshot w.snapshot ≡ Some text → failed < greatest_count → TalkRan from failed talk to failed → length talk < 2 ^ 64 - 1
    → NoClash (IsSpoken (λ x. ⊥) from (IsSent [] None)) → IsRestore w None outcome (trace_of talk) → IsCompleteOrMemory outcome

-- ---- whatever the replies

-- a restore whose ticket was pending had these replies, whoever sent them and whatever they say, and took these turns of them
pub record RestoreTook (old : Session Restore) (replies : List Reply) (talk : Talk) (new : Session Restore) : Type 0 where
  pub begins : FitsRestore old []
  pub took : TookEach (who_in old).instance FitsRestore (λ s. next_in s) old replies talk new
  pub wish : wish_of new ≡ wish_of old

-- Where it is complete, what it gave out, and that is all that it gave out, is what the snapshot's tree spells in the blobs that were received; and what was
-- received came in those replies.
abbrev pub RestoredIsWhatCame : Type 0
RestoredIsWhatCame = (old new : Session Restore) (replies : List Reply) (talk : Talk) (entries : ℕ) → RestoreTook old replies talk new → ended_in new ≡ Some (Outcome.Complete entries)
    → CameIn replies (trace_of talk) × IsRestored (before_unlock (trace_of talk)) (wish_of old).snapshot entries × (emitted_in (before_unlock (trace_of talk)) ≡ given_in talk)

-- by what was received, this may be given out where the snapshot is restored
abbrev pub MayBeGiven : Trace → Name → Emission → Type 0
MayBeGiven es snapshot given = (version : ℕ) × (root : Name) × HasRoot es snapshot version root × MayGive es version root given

-- And however it ends, or doesn't, each part that it gave out is one that may be.
abbrev pub GivenIsWhatCame : Type 0
GivenIsWhatCame = (old new : Session Restore) (replies : List Reply) (talk : Talk) (given : Emission) → RestoreTook old replies talk new → Contains (given_in talk) given
    → CameIn replies (trace_of talk) × MayBeGiven (trace_of talk) (wish_of old).snapshot given

-- by what was received, nothing was given out, or a beginning of what the snapshot's tree spells
abbrev pub BeginsSnapshot : Trace → Name → List Emission → Type 0
BeginsSnapshot es snapshot given = (given ≡ []) ⊎ ((version : ℕ) × (root : Name) × HasRoot es snapshot version root × IsBeginning version (Received es) root given)

-- And all that it gave out is that: no entry is left out before another, none comes twice, and the file that is open has its first bytes.
abbrev pub GivenIsABeginning : Type 0
GivenIsABeginning = (old new : Session Restore) (replies : List Reply) (talk : Talk) → RestoreTook old replies talk new → CameIn replies (trace_of talk) × BeginsSnapshot (trace_of talk) (wish_of old).snapshot (given_in talk)

-- by what was received, the file at this path has these bytes where the snapshot is restored
abbrev pub FileHolds : Trace → Name → List (List ℕ) → List ℕ → Type 0
FileHolds es snapshot path bytes = (version : ℕ) × (root : Name) × HasRoot es snapshot version root × IsFileAt version (Received es) root path bytes

-- And so is a file that it closed whole: wherever it gave out a file's beginning, pieces of some bytes and a close, the file at that path has these bytes.
abbrev pub ClosedIsWhole : Type 0
ClosedIsWhole = (old new : Session Restore) (replies : List Reply) (talk : Talk) (before inside after : List Emission) (path : List (List ℕ)) (bytes : List ℕ) → RestoreTook old replies talk new
    → given_in talk ≡ before ++ Emission.File path ∷ (inside ++ Emission.Close ∷ after) → ArePieces inside bytes → CameIn replies (trace_of talk) × FileHolds (trace_of talk) (wish_of old).snapshot path bytes

-- ---- what comes next

-- the blob that comes next behind what was given out is one that the tree of the root reaches
abbrev pub NextIsReached : Blobs → Type 0
NextIsReached B = (version : ℕ) (root : Name) (emitted : List Emission) (kind : BlobKind) (name : Name) → IsNextBlob version B root emitted kind name → Reach version B root kind name

-- ---- what is first

-- these entries are the first of others; where a file is open behind them, the last one has the first bytes of its own
abbrev pub AreFirstOf : Bool → List Entry → List Entry → Type 0
AreFirstOf false first all = (rest : List Entry) × (all ≡ first ++ rest)
AreFirstOf true first all = (before : List Entry) × (path : List (List ℕ)) × (bytes : List ℕ) × (more : List ℕ) × (rest : List Entry) × (first ≡ before ++ file_entry path bytes ∷ []) × (all ≡ before ++ file_entry path (bytes ++ more) ∷ rest)

-- Where B and C agree, what a tree spells first in B is the first of what it spells in C: so is what a restore gave out by the blobs that it received, for
-- whoever has all of them.
abbrev pub FirstIsOfAll : Blobs → Blobs → Type 0
FirstIsOfAll B C = (version : ℕ) → Agree B C → (t : Name) (path : List (List ℕ)) (within : Bool) (first all : List Entry) → SpellsFirst version B t path within first → Spells version C t path all → AreFirstOf within first all

-- So a restore alone with a sound store where nothing clashes, however far it came, gave out the first of the entries that its snapshot spells there; where a
-- file is open, the first bytes of it.
abbrev pub RestoreGivesFirst : Type 0
RestoreGivesFirst = (w : Wish) (from to : Store) (failed failing : ℕ) (talk : Talk) (next : Option Request) (outcome : Option Outcome) (text : List ℕ) (snapshot : Snapshot) (entries : List Entry)
    → IsSound from.objects → from.objects Kind.Snapshot w.snapshot ≡ Some text → IsSnapshotText text snapshot → Spells snapshot.version (IsHeld from.objects) snapshot.tree [] entries → TalkRan from failed talk to failing
    → NoClash (IsSpoken (λ x. ⊥) from (IsSent [] None)) → IsRestore w next outcome (trace_of talk) → (within : Bool) × Follow false (given_in talk) within × AreFirstOf within (rebuilt (given_in talk)) entries
