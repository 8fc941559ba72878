-- What a survey of a store knows of the trace.
use Rattle.std.specs.Prelude.{◌≤◌, ◌≡◌, ◌⊎◌, ◌∷◌, [], ⊤, List, flat_map, Option, Some, None, ◌↔◌, ℕ, true, Contains, map, Bool, IsTrue}
use Rattle.repo_name.specs.declared.kinds.BlobKind.TheVariants.{Content, Tree}
use Rattle.repo_name.specs.declared.kinds.Kind.{Kind}
use Rattle.repo_name.specs.declared.kinds.Thing.{Thing}
use Rattle.repo_name.specs.declared.names.Name.{Name}
use Rattle.repo_name.specs.declared.tokens.Token.{Token}
use Rattle.repo_wire.specs.declared.messages.Ask.{Ask}
use Rattle.repo_wire.specs.declared.messages.Say.{Say}
use Rattle.repo_index.specs.Lookups.{Joins}
use Rattle.repo_index.specs.declared.facts.Fact.{Fact}
use Rattle.repo_index.specs.declared.facts.PackFacts.{PackFacts}
use Rattle.repo_session.specs.Versions.{upto}
use Rattle.repo_session.specs.declared.jobs.Step.{Step}
use Rattle.repo_session.specs.declared.parts.Came.{Came}
use Rattle.repo_session.specs.declared.versions.Versions.{Versions}
use Rattle.repo_session.specs.declared.outcomes.CheckFault.{CheckFault}
use Rattle.repo_session.specs.declared.outcomes.FaultKind.{FaultKind}
use Rattle.repo_session.specs.Blobs.{range_of}
use Rattle.repo_session.specs.Order.{Task, IsWorking, May, last_of, opened}
use Rattle.repo_session.specs.Traces.{Exchange, Exchanged, Trace, silent}
use Rattle.repo_reach.specs.declared.roots.Root.{Root}
use Rattle.repo_tree.specs.Spelling.{greatest_depth}
use Rattle.repo_check.specs.Answers.{Answer, Gathered, IsDeepest, IsFollowed, IsReachedBlob}
use Rattle.repo_check.specs.Arrivals.{IsIndexOf, IsPackOf, IsRootOf}
use Rattle.repo_check.specs.Checking.{AreAnswers, IsFaultOf}
use Rattle.repo_check.specs.Findings.{BlobIs}
use Rattle.repo_check.specs.Gathering.{facts_noted, fault_noted, root_noted}
use Rattle.repo_check.specs.Rounds.{AreNoted, CheckComes, HasOneMore, IsFreshRound, IsUntouched, IsWholeRound, KnowsRound, RoundView, round_of}
use Rattle.repo_check.specs.Telling.{told}
use Rattle.repo_check.specs.Visiting.{IsGiven}
use Rattle.repo_check.specs.Walks.{ContentFault, Awaits, TreeIsNoted, IsFreshKnown, IsOver, IsWalkMark, WalkReads, WalkView, Walks, WalksOn, tree_fault, walk_of}
use Rattle.repo_check.specs.declared.knowing.TreeNote.{TreeNote}
use Rattle.repo_check.specs.declared.surveys.Survey.{Survey}
use Rattle.repo_check.specs.declared.surveys.SurveyMark.{SurveyMark}
use Rattle.repo_check.specs.declared.visiting.Gift.{Gift}
use Rattle.repo_check.specs.declared.visiting.Visit.{Visit}
use Rattle.repo_tree.specs.declared.configs.Config.{Config}
use Rattle.repo_tree.specs.ConfigText.{IsConfigText}

-- the rounds over the three kinds
pub record RoundsView : Type 0 where
  pub snapshots : RoundView Root
  pub indexes : RoundView (List PackFacts)
  pub packs : RoundView (List Fact)

-- the code's own
abbrev pub rounds_of : Survey → RoundsView
rounds_of s = record { snapshots = round_of s.snapshots; indexes = round_of s.indexes; packs = round_of s.packs }

-- the notes say what came
pub record KnowsNotes (rounds : RoundsView) (es : Trace) : Type 0 where
  pub snapshots : AreNoted Kind.Snapshot IsRootOf rounds.snapshots.names rounds.snapshots.notes es
  pub indexes : AreNoted Kind.Index IsIndexOf rounds.indexes.names rounds.indexes.notes es
  pub packs : AreNoted Kind.Pack IsPackOf rounds.packs.names rounds.packs.notes es

-- no place was asked for
abbrev pub IsUnranged : Trace → Type 0
IsUnranged es = (pack : Name) (offset len : ℕ) (say : Say) → ¬ Exchanged es (Ask.Range pack offset len) say

-- ---- what is known where this is pending

-- a page of snapshots, or a snapshot
pub record AtSnapshots (rounds : RoundsView) (ask : Ask) (es : Trace) : Type 0 where
  pub snapshots : KnowsRound Kind.Snapshot rounds.snapshots ask es
  pub indexes : IsFreshRound Kind.Index rounds.indexes
  pub no_indexes : IsUntouched Kind.Index es
  pub packs : IsFreshRound Kind.Pack rounds.packs
  pub no_packs : IsUntouched Kind.Pack es
  pub no_trees : IsUnranged es

-- a page of indexes, or an index
pub record AtIndexes (rounds : RoundsView) (ask : Ask) (es : Trace) : Type 0 where
  pub snapshots : IsWholeRound Kind.Snapshot rounds.snapshots es
  pub indexes : KnowsRound Kind.Index rounds.indexes ask es
  pub packs : IsFreshRound Kind.Pack rounds.packs
  pub no_packs : IsUntouched Kind.Pack es
  pub no_trees : IsUnranged es

-- a page of packs, or a pack
pub record AtPacks (rounds : RoundsView) (ask : Ask) (es : Trace) : Type 0 where
  pub snapshots : IsWholeRound Kind.Snapshot rounds.snapshots es
  pub indexes : IsWholeRound Kind.Index rounds.indexes es
  pub packs : KnowsRound Kind.Pack rounds.packs ask es
  pub no_trees : IsUnranged es

-- all objects came; the walk goes by the facts of the indexes that read, from the roots of the snapshots that read
pub record HasObjects (rounds : RoundsView) (walk : WalkView) (roots : List Root) (es : Trace) : Type 0 where
  pub snapshots : IsWholeRound Kind.Snapshot rounds.snapshots es
  pub indexes : IsWholeRound Kind.Index rounds.indexes es
  pub packs : IsWholeRound Kind.Pack rounds.packs es
  pub facts : Joins [] (flat_map facts_noted rounds.indexes.notes) walk.known.facts
  pub roots_are : roots ≡ flat_map root_noted rounds.snapshots.notes

-- a tree
pub record AtTrees (rounds : RoundsView) (walk : WalkView) (ask : Ask) (es : Trace) : Type 0 where
  pub roots : List Root
  pub objects : HasObjects rounds walk roots es
  pub fact : Fact
  pub asked : ask ≡ range_of fact
  pub awaits : Awaits roots walk fact
  pub answers : List Answer
  pub reads : WalkReads walk answers es

-- one of these
abbrev pub Surveys : RoundsView → WalkView → Ask → Trace → Type 0
Surveys rounds walk ask es = KnowsNotes rounds es × (AtSnapshots rounds ask es ⊎ (AtIndexes rounds ask es ⊎ (AtPacks rounds ask es ⊎ AtTrees rounds walk ask es)))

-- all came
pub record IsSurveyed (rounds : RoundsView) (walk : WalkView) (es : Trace) : Type 0 where
  pub notes : KnowsNotes rounds es
  pub roots : List Root
  pub objects : HasObjects rounds walk roots es
  pub over : IsOver roots walk
  pub answers : List Answer
  pub reads : WalkReads walk answers es

-- ---- steps

-- what comes next after an exchange
abbrev pub SurveysOn : Task → RoundsView → WalkView → Came (Unit {0}) → Exchange → Trace → Type 0
SurveysOn task rounds walk next e es = CheckComes task (Surveys rounds walk) (IsSurveyed rounds walk) next e es

-- what comes next is the step of a turn; after the last turn of a kind it is this
abbrev pub GoesAfter : Came (Unit {0}) → Came (Unit {0}) → Came (Unit {0}) → Type 0
GoesAfter (Came.All _) last next = next ≡ last
GoesAfter (Came.Step step) last next = next ≡ Came.Step step

-- the first page of a kind is asked for
abbrev pub first_page : {T : Type 0} → RoundView T → Came (Unit {0})
first_page round = Came.Step (Step.Ask (Ask.List round.kind (last_of round.names)))

-- what a reply comes to, after each trace at whose end its request was pending
abbrev pub TakesSurvey : RoundsView → WalkView → Ask → Say → Came (Unit {0}) → RoundsView → WalkView → Type 0
TakesSurvey rounds walk ask say next rounds' walk' = (task : Task) (token : Token) (es : Trace) → IsWorking task token (silent ask say ∷ es) → May task es ask → Surveys rounds walk ask es
    → SurveysOn task rounds' walk' next (silent ask say) es

-- of who knows these versions
abbrev pub TakesSurveyBy : Versions → RoundsView → WalkView → Ask → Say → Came (Unit {0}) → RoundsView → WalkView → Type 0
TakesSurveyBy versions rounds walk ask say next rounds' walk' = (task : Task) (token : Token) (es : Trace) → task.versions ≡ versions → IsWorking task token (silent ask say ∷ es) → May task es ask → Surveys rounds walk ask es
    → SurveysOn task rounds' walk' next (silent ask say) es

-- the last name of a kind so far
abbrev pub last_in : RoundsView → Kind → Option Name
last_in rounds Kind.Pack = last_of rounds.packs.names
last_in rounds Kind.Index = last_of rounds.indexes.names
last_in rounds Kind.Snapshot = last_of rounds.snapshots.names

-- a page is asked for behind the last name of its kind
abbrev pub IsPageBehind : RoundsView → Ask → Type 0
IsPageBehind rounds (Ask.List k after) = after ≡ last_in rounds k
IsPageBehind rounds _ = ⊤

-- ---- the walk

-- a walk goes by the facts of the indexes that read, and begins at the roots of the snapshots that read; nothing is known of trees
pub record WalkHasBegun (rounds : RoundsView) (walk : WalkView) : Type 0 where
  pub roots : List Root
  pub roots_are : roots ≡ flat_map root_noted rounds.snapshots.notes
  pub facts : Joins [] (flat_map facts_noted rounds.indexes.notes) walk.known.facts
  pub fresh : IsFreshKnown walk.known.facts walk.known
  pub walks : Walks roots walk

-- the next tree is asked for, or all was received
abbrev pub next_of : Option Fact → Came (Unit {0})
next_of (Some fact) = Came.Step (Step.Ask (range_of fact))
next_of None = Came.All tt

-- it went on to the first tree that is to be asked for
pub record WalkBegins (rounds : RoundsView) (walk : WalkView) (next : Came (Unit {0})) : Type 0 where
  pub roots : List Root
  pub roots_are : roots ≡ flat_map root_noted rounds.snapshots.notes
  pub facts : Joins [] (flat_map facts_noted rounds.indexes.notes) walk.known.facts
  pub fresh : IsFreshKnown walk.known.facts walk.known
  pub fact : Option Fact
  pub on : WalksOn roots walk fact
  pub is : next ≡ next_of fact

-- what comes next is the step of a turn of the packs; after the last one the walk begins
abbrev pub GoesToTrees : RoundsView → WalkView → Came (Unit {0}) → Came (Unit {0}) → Type 0
GoesToTrees rounds walk (Came.All _) next = WalkBegins rounds walk next
GoesToTrees rounds walk (Came.Step step) next = next ≡ Came.Step step

-- ---- taking back

-- how far a survey has come: the tree that is asked for, if one is, and where the walk stands
abbrev pub IsSurveyMark : WalkView → SurveyMark → Type 0
IsSurveyMark walk mark = IsWalkMark walk mark.walk × ((roots : List Root) (fact : Fact) → Awaits roots walk fact → mark.tree ≡ Some fact.name)

-- what was taken with the reply to a request, after which all had come: a page without names, one more note of a pack, or a note of a tree
abbrev pub HasTaken : RoundsView → WalkView → Ask → RoundsView → WalkView → Type 0
HasTaken rounds walk (Ask.List k after) rounds' walk' = (es : Trace) → Surveys rounds walk (Ask.List k after) es → rounds' ≡ rounds
HasTaken rounds walk (Ask.Get k n) rounds' walk' = (rounds'.snapshots ≡ rounds.snapshots) × (rounds'.indexes ≡ rounds.indexes) × HasOneMore rounds.packs rounds'.packs
HasTaken rounds walk (Ask.Range pack offset len) rounds' walk' = (rounds' ≡ rounds) × ((es : Trace) → Surveys rounds walk (Ask.Range pack offset len) es → (roots : List Root) × (fact : Fact) × (note : TreeNote) × Awaits roots walk fact × TreeIsNoted walk fact.name note walk')
HasTaken rounds walk _ rounds' walk' = ⊥

-- ---- all this between surveys as they stand

abbrev pub SurveyKnows : Survey → Ask → Trace → Type 0
SurveyKnows s ask es = Surveys (rounds_of s) (walk_of s.walk) ask es

abbrev pub SurveyTakes : Survey → Ask → Say → Came (Unit {0}) → Survey → Type 0
SurveyTakes old ask say next new = TakesSurvey (rounds_of old) (walk_of old.walk) ask say next (rounds_of new) (walk_of new.walk)

abbrev pub SurveyTakesBy : Versions → Survey → Ask → Say → Came (Unit {0}) → Survey → Type 0
SurveyTakesBy versions old ask say next new = TakesSurveyBy versions (rounds_of old) (walk_of old.walk) ask say next (rounds_of new) (walk_of new.walk)

abbrev pub SurveyHasTaken : Survey → Ask → Survey → Type 0
SurveyHasTaken old ask new = HasTaken (rounds_of old) (walk_of old.walk) ask (rounds_of new) (walk_of new.walk)

-- ---- the beginning

-- nothing was listed
pub record IsFreshSurvey (rounds : RoundsView) : Type 0 where
  pub snapshots : IsFreshRound Kind.Snapshot rounds.snapshots
  pub indexes : IsFreshRound Kind.Index rounds.indexes
  pub packs : IsFreshRound Kind.Pack rounds.packs

-- the first request may be sent, and what is known then
abbrev pub IsFirst : Task → RoundsView → WalkView → Trace → Ask → Type 0
IsFirst task rounds walk es ask = May task es ask × Surveys rounds walk ask es

-- the first request after whatever config was read, of a version that is known
abbrev pub OpensWith : RoundsView → WalkView → Ask → Type 0
OpensWith rounds walk ask = (task : Task) (token : Token) (text : List ℕ) (config : Config) → IsConfigText text config → config.version ≤ upto task.versions → IsFirst task rounds walk (opened task token text) ask

-- ---- what a survey received

-- the answers that came for the objects of a kind
abbrev pub objects_in : {rounds : RoundsView} {es : Trace} → KnowsNotes rounds es → Kind → List Answer
objects_in notes Kind.Pack = notes.packs.answers
objects_in notes Kind.Index = notes.indexes.answers
objects_in notes Kind.Snapshot = notes.snapshots.answers

-- all answers that came
abbrev pub answers_in : {rounds : RoundsView} {walk : WalkView} {es : Trace} → IsSurveyed rounds walk es → Gathered
answers_in s = record { objects = objects_in s.notes; trees = s.answers }

-- where all came, the answers are what the definitions ask for
abbrev pub SurveyedIsReceived : Type 0
SurveyedIsReceived = (rounds : RoundsView) (walk : WalkView) (es : Trace) (s : IsSurveyed rounds walk es) → AreAnswers es (answers_in s)

-- a tree is visited so
abbrev pub IsVisited : List Visit → (Visit → Type 0) → Name → Type 0
IsVisited visits Such n = (v : Visit) × Contains visits v × (v.tree ≡ n) × Such v

-- and the trees that are reached are those of the visits; those that are visited at the greatest depth are the deepest, and those that are visited as parts are
-- read so
abbrev pub VisitsAreReached : Type 0
VisitsAreReached = (rounds : RoundsView) (walk : WalkView) (es : Trace) (s : IsSurveyed rounds walk es) (n : Name)
    → (IsReachedBlob (answers_in s) Tree n ↔ IsVisited walk.visits (λ v. ⊤) n) × (IsDeepest (answers_in s) n ↔ IsVisited walk.visits (λ v. v.depth ≡ greatest_depth) n)
    × (IsFollowed (answers_in s) n ↔ IsVisited walk.visits (λ v. v.follows ≡ true) n)

-- and the content that is reached is that of the visits
abbrev pub ContentIsReached : Type 0
ContentIsReached = (rounds : RoundsView) (walk : WalkView) (es : Trace) (s : IsSurveyed rounds walk es) (n : Name) → IsReachedBlob (answers_in s) Content n ↔ IsGiven Gift.Content walk.known.kept walk.visits n

-- what is told of the snapshots by their notes is what is at fault of snapshots
abbrev pub SnapshotsAreTold : Type 0
SnapshotsAreTold = (rounds : RoundsView) (walk : WalkView) (es : Trace) (s : IsSurveyed rounds walk es) (fault : CheckFault)
    → Contains (told Thing.Snapshot rounds.snapshots.names (map fault_noted rounds.snapshots.notes)) fault ↔ ((fault.thing ≡ Thing.Snapshot) × IsFaultOf (answers_in s) fault)

-- so are the packs
abbrev pub PacksAreTold : Type 0
PacksAreTold = (rounds : RoundsView) (walk : WalkView) (es : Trace) (s : IsSurveyed rounds walk es) (fault : CheckFault)
    → Contains (told Thing.Pack rounds.packs.names (map fault_noted rounds.packs.notes)) fault ↔ ((fault.thing ≡ Thing.Pack) × IsFaultOf (answers_in s) fault)

-- what is told of a tree that is reached is what is found of it
abbrev pub TreesAreTold : Type 0
TreesAreTold = (rounds : RoundsView) (walk : WalkView) (es : Trace) (s : IsSurveyed rounds walk es) (n : Name) (broken : Bool) → IsReachedBlob (answers_in s) Tree n → (IsTrue broken ↔ IsGiven Gift.Broken walk.known.kept walk.visits n)
    → BlobIs (answers_in s) Tree n (tree_fault (walk.known.faults n) (walk.known.kept n) broken)

-- so is what is told of content
abbrev pub ContentIsTold : Type 0
ContentIsTold = (rounds : RoundsView) (walk : WalkView) (es : Trace) (s : IsSurveyed rounds walk es) (n : Name) (found : Option FaultKind) → ContentFault walk.known.facts n found → BlobIs (answers_in s) Content n found

-- where a tree that a walk awaited was noted, this is that walk again, by its mark
abbrev pub TakesTreeBack : SurveyMark → WalkView → WalkView → Type 0
TakesTreeBack mark old new = (roots : List Root) (fact : Fact) (note : TreeNote) (walk : WalkView) → IsSurveyMark walk mark → Awaits roots walk fact
    → TreeIsNoted walk fact.name note old → new ≡ walk

-- where what was said to a request was taken, the survey is again where that request was pending
abbrev pub SurveyTakesBack : SurveyMark → Ask → Survey → Survey → Type 0
SurveyTakesBack mark ask old new = (rounds : RoundsView) (walk : WalkView) (es : Trace) → IsSurveyMark walk mark → HasTaken rounds walk ask (rounds_of old) (walk_of old.walk)
    → Surveys rounds walk ask es → Surveys (rounds_of new) (walk_of new.walk) ask es

-- where a page of a kind is pending, the rounds stay; where a tree is, the walk does
abbrev pub StaysAtPage : Kind → Survey → Survey → Type 0
StaysAtPage kind old new = (after : Option Name) (es : Trace) → SurveyKnows old (Ask.List kind after) es → rounds_of new ≡ rounds_of old

abbrev pub StaysAtTree : Survey → Survey → Type 0
StaysAtTree old new = (pack : Name) (offset len : ℕ) (es : Trace) → SurveyKnows old (Ask.Range pack offset len) es → walk_of new.walk ≡ walk_of old.walk
