-- What is told of each thing that a survey received.
use Rattle.std.specs.Prelude.{◌≡◌, ◌≢◌, ◌↔◌, ◌+◌, ◌++◌, [], ⊤, ℕ, List, length, map, Option, Some, None, Contains}
use Rattle.std.specs.BTreeSet.{BTreeSet, contains}
use Rattle.repo_name.specs.Naming.{name_cmp}
use Rattle.repo_name.specs.declared.kinds.Thing.{Thing}
use Rattle.repo_name.specs.declared.names.Name.{Name}
use Rattle.repo_index.specs.declared.facts.PackFacts.{PackFacts}
use Rattle.repo_store.specs.Pages.{NamesAscend}
use Rattle.repo_session.specs.Traces.{Trace}
use Rattle.repo_session.specs.declared.outcomes.CheckFault.{CheckFault}
use Rattle.repo_session.specs.declared.outcomes.FaultKind.{FaultKind}
use Rattle.repo_session.specs.declared.outcomes.Outcome.{Outcome}
use Rattle.repo_check.specs.Checking.{IsCount, IsFaultOf}
use Rattle.repo_check.specs.Fitting.{FactsOfPacks, Fits, Misfits, facts_by}
use Rattle.repo_check.specs.Gathering.{AreGiven, HasGiven, fault_noted}
use Rattle.repo_check.specs.Rounds.{Match, RoundView}
use Rattle.repo_check.specs.Surveys.{IsSurveyed, RoundsView, answers_in}
use Rattle.repo_check.specs.Telling.{told}
use Rattle.repo_check.specs.Walks.{ContentFault, Knowledge, WalkView, tree_fault}
use Rattle.repo_check.specs.declared.reaching.Reached.{Reached}
use Rattle.repo_check.specs.declared.rounds.Note.{Note}
use Rattle.repo_check.specs.declared.visiting.Gift.{Gift}

-- ---- what is reached

-- trees and content, by their names
pub record ReachedView : Type 0 where
  pub trees : List Name
  pub content : List Name

-- the code's own
abbrev pub reached_of : Reached → ReachedView
reached_of reached = record { trees = reached.trees.items; content = reached.content.items }

-- the trees of all visits, and their content
pub record AreReached (walk : WalkView) (reached : ReachedView) : Type 0 where
  pub trees : AreGiven Gift.Tree walk.known.kept walk.visits reached.trees
  pub content : AreGiven Gift.Content walk.known.kept walk.visits reached.content

-- ---- what is found

-- what is found of an index by what is known of packs: that it reads and doesn't fit them, or nothing
abbrev pub IsFoundOfIndex : FactsOfPacks → Note (List PackFacts) → Option FaultKind → Type 0
IsFoundOfIndex packs (Note.Well text) None = Fits text packs
IsFoundOfIndex packs (Note.Well text) (Some what) = (what ≡ FaultKind.Place) × Misfits text packs
IsFoundOfIndex packs (Note.Fault fault) None = ⊤
IsFoundOfIndex packs (Note.Fault fault) (Some what) = ⊥

-- what is found of a tree, where a set has those that break their directories
abbrev pub IsTreeFound : Knowledge → BTreeSet Name → Name → Option FaultKind → Type 0
IsTreeFound known broken n found = found ≡ tree_fault (known.faults n) (known.kept n) (contains name_cmp broken n)

-- ---- what is told

-- the faults told of the objects of a round by their notes
abbrev pub told_of : {T : Type 0} → Thing → RoundView T → List CheckFault
told_of thing round = told thing round.names (map fault_noted round.notes)

-- those of objects came behind others
pub record AreObjectsTold (rounds : RoundsView) (old new : List CheckFault) : Type 0 where
  pub places : List (Option FaultKind)
  pub placed : NamesAscend None rounds.packs.names → Match (IsFoundOfIndex (facts_by rounds.packs)) rounds.indexes.notes places
  pub are : new ≡ (((old ++ told_of Thing.Snapshot rounds.snapshots) ++ told_of Thing.Index rounds.indexes) ++ told_of Thing.Pack rounds.packs) ++ told Thing.Index rounds.indexes.names places

-- and those of blobs
pub record AreBlobsTold (walk : WalkView) (reached : ReachedView) (old new : List CheckFault) : Type 0 where
  pub broken : BTreeSet Name
  pub broken_are : HasGiven Gift.Broken walk.known.kept walk.visits broken
  pub content : List (Option FaultKind)
  pub content_are : Match (ContentFault walk.known.facts) reached.content content
  pub trees : List (Option FaultKind)
  pub trees_are : Match (IsTreeFound walk.known broken) reached.trees trees
  pub are : new ≡ (old ++ told Thing.Content reached.content content) ++ told Thing.Tree reached.trees trees

-- the faults of objects, and behind them those of blobs
pub record AreTold (rounds : RoundsView) (walk : WalkView) (reached : ReachedView) (faults : List CheckFault) : Type 0 where
  pub of_objects : List CheckFault
  pub objects : AreObjectsTold rounds [] of_objects
  pub blobs : AreBlobsTold walk reached of_objects faults

-- all is well, and these are the counts
abbrev pub Counts : RoundsView → ReachedView → Outcome → Type 0
Counts rounds reached outcome = (snapshots : ℕ) × (indexes : ℕ) × (packs : ℕ) × (blobs : ℕ) × (outcome ≡ Outcome.Clean snapshots indexes packs blobs)
    × IsCount snapshots (length rounds.snapshots.notes) × IsCount indexes (length rounds.indexes.notes) × IsCount packs (length rounds.packs.notes) × IsCount blobs (length reached.content + length reached.trees)

-- ---- what that is by the definitions

-- what is told of the indexes by themselves is what is at fault of them, but for those that don't fit the packs
abbrev pub IndexesAreTold : Type 0
IndexesAreTold = (rounds : RoundsView) (walk : WalkView) (es : Trace) (s : IsSurveyed rounds walk es) (places : List (Option FaultKind)) (fault : CheckFault) → Match (IsFoundOfIndex (facts_by rounds.packs)) rounds.indexes.notes places
    → Contains (told_of Thing.Index rounds.indexes) fault ↔ ((fault.thing ≡ Thing.Index) × (fault.what ≢ FaultKind.Place) × IsFaultOf (answers_in s) fault)

-- and what is told of them by the packs is that those don't
abbrev pub PlacesAreTold : Type 0
PlacesAreTold = (rounds : RoundsView) (walk : WalkView) (es : Trace) (s : IsSurveyed rounds walk es) (places : List (Option FaultKind)) (fault : CheckFault) → Match (IsFoundOfIndex (facts_by rounds.packs)) rounds.indexes.notes places
    → Contains (told Thing.Index rounds.indexes.names places) fault ↔ ((fault.thing ≡ Thing.Index) × (fault.what ≡ FaultKind.Place) × IsFaultOf (answers_in s) fault)
