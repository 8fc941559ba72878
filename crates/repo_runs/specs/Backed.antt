-- A backup, a restore and a prune, as examples: an empty folder is backed up to a store without objects, and its snapshot is reported as stored; only then
-- another client starts, and it is restored, or the store is pruned, or it is forgotten and then the store pruned.
use Rattle.std.specs.Prelude.{false, ◌≡◌, ◌≤◌, ◌<◌, ◌^◌, ◌-◌, ◌∷◌, [], ℕ, List, length, min, Some, None, Contains}
use Rattle.repo_name.specs.Naming as naming
use Rattle.repo_name.specs.Rows.{IsHost}
use Rattle.repo_name.specs.declared.kinds.BlobKind.TheVariants.{Tree}
use Rattle.repo_name.specs.declared.kinds.Kind.{Kind}
use Rattle.repo_name.specs.declared.names.Name.{Name}
use Rattle.repo_pack.specs.PackLayout.{Item, item_of, IsTruePack}
use Rattle.repo_index.specs.declared.facts.Fact.{Fact}
use Rattle.repo_index.specs.Exactness.{AreFactsAt}
use Rattle.repo_index.specs.IndexText.{IsIndexText, Says}
use Rattle.repo_locks.specs.TokenMachine.{start}
use Rattle.repo_tree.specs.declared.configs.Config.{Config}
use Rattle.repo_tree.specs.declared.snapshots.Snapshot.{Snapshot}
use Rattle.repo_tree.specs.ConfigText.{IsConfigText}
use Rattle.repo_tree.specs.SnapshotText.{IsSnapshotText}
use Rattle.repo_tree.specs.TreeText.{IsTreeText}
use Rattle.repo_tree.specs.TreeWriting.{tree_text}
use Rattle.repo_store.specs.StoreMachine.{object_limit, config_limit}
use Rattle.repo_store.specs.Stores.{Store}
use Rattle.repo_session.specs.Alone.{NoClash}
use Rattle.repo_session.specs.Deletions.{DeleteDone}
use Rattle.repo_session.specs.declared.outcomes.Outcome.{Outcome}
use Rattle.repo_writing.specs.Putting.{PutDone}
use Rattle.repo_writing.specs.Writing.{bytes_of}
use Rattle.repo_prune.specs.declared.choices.Choice.{Choice}
use Rattle.repo_world.specs.Events.{Run}
use Rattle.repo_world.specs.Safe.{HasNoClash}
use Rattle.repo_world.specs.World.{World, client, beginning}
use Rattle.repo_world.specs.declared.jobs.Job.{Job}
use Rattle.repo_world.specs.declared.events.Event.{Event}

-- the tree blob of an empty directory
abbrev pub empty_tree : Item
empty_tree = item_of Tree (tree_text [])

-- the store: this config, and nothing else
abbrev pub configured : List ℕ → Store
configured config = record { config = Some config; objects = λ k n. None; tokens = start; append_only = false }

-- what its machine's host and moment make of its snapshot: the token is the first one, and the tree that of an empty directory
abbrev pub snapshot_of : List ℕ → ℕ → Snapshot
snapshot_of host time = record { version = 1; host = host; time = time; token = record { 0 = 1 }; tree = naming.name (tree_text []) }

-- texts as they are written: the store's config, of version 1; the empty tree; a pack of it, and an index of that pack; the snapshot. Each is within its limit.
pub record AreTexts (host : List ℕ) (time : ℕ) (config pack index snapshot : List ℕ) : Type 0 where
  pub read : Config
  pub configured : IsConfigText config read
  pub first : read.version ≡ 1
  pub config_short : length config ≤ config_limit
  pub empty : IsTreeText (tree_text []) []
  pub packed : IsTruePack pack (empty_tree ∷ [])
  pub pack_short : length pack ≤ object_limit Kind.Pack
  pub facts : List Fact
  pub exact : AreFactsAt (naming.name pack) (empty_tree ∷ []) facts
  pub indexed : IsIndexText index (record { pack = naming.name pack; facts = facts } ∷ [])
  pub index_short : length index ≤ object_limit Kind.Index
  pub reads : IsSnapshotText snapshot (snapshot_of host time)
  pub snapshot_short : length snapshot ≤ object_limit Kind.Snapshot

-- the byte lists of which the runs below speak: those, and the tree in the pack
abbrev pub lists_of : (config pack index snapshot : List ℕ) → List (List ℕ)
lists_of config pack index snapshot = config ∷ pack ∷ index ∷ snapshot ∷ tree_text [] ∷ []

-- no two of them have one name; and none but the index reads as an index that says a fact
pub record AreApart (config pack index snapshot : List ℕ) : Type 0 where
  pub names : NoClash (λ x. Contains (lists_of config pack index snapshot) x)
  pub one : (x : List ℕ) (fact : Fact) → Contains (lists_of config pack index snapshot) x → Says x fact → x ≡ index

-- its outcome: its snapshot is stored, with one blob
abbrev pub stored : List ℕ → Outcome
stored snapshot = Outcome.Stored (naming.name snapshot) 1 (min (bytes_of (empty_tree ∷ [])) (2 ^ 64 - 1))

-- the pack, the index and the snapshot are there
abbrev pub AreStored : World → (pack index snapshot : List ℕ) → Type 0
AreStored w pack index snapshot = (w.store.objects Kind.Pack (naming.name pack) ≡ Some pack) × (w.store.objects Kind.Index (naming.name index) ≡ Some index)
    × (w.store.objects Kind.Snapshot (naming.name snapshot) ≡ Some snapshot)

-- some events lead to a world with one client, a backup of no entries, which reports its snapshot as stored, and it is there with its index and its pack; and
-- nothing clashes in it, where those lists are apart
pub record IsBackedUp (config pack index snapshot : List ℕ) : Type 0 where
  pub events : List Event
  pub last : World
  pub run : Run (beginning (configured config)) events last
  pub alone : length last.clients ≡ 1
  pub backs_up : (client last 0).job ≡ Job.Backup []
  pub reported : (client last 0).outcome ≡ Some (stored snapshot)
  pub there : AreStored last pack index snapshot
  pub calm : AreApart config pack index snapshot → HasNoClash last

-- with any such texts there is such a run
abbrev pub BackupIsARun : Type 0
BackupIsARun = (host : List ℕ) (time : ℕ) (config pack index snapshot : List ℕ) → (time < 2 ^ 64) × IsHost host → AreTexts host time config pack index snapshot → IsBackedUp config pack index snapshot

-- it is backed up so; more events lead from there to a world in which a second client, a restore of the snapshot, is complete: the folder has no entry, as
-- what was backed up
pub record IsGivenBack (config pack index snapshot : List ℕ) : Type 0 where
  pub backup : IsBackedUp config pack index snapshot
  pub more : List Event
  pub last : World
  pub run : Run backup.last more last
  pub reported : (client last 0).outcome ≡ Some (stored snapshot)
  pub restores : (client last 1).job ≡ Job.Restore (naming.name snapshot)
  pub complete : (client last 1).outcome ≡ Some (Outcome.Complete 0)
  pub calm : AreApart config pack index snapshot → HasNoClash last

-- with any such texts there is such a run
abbrev pub RestoreIsARun : Type 0
RestoreIsARun = (host : List ℕ) (time : ℕ) (config pack index snapshot : List ℕ) → (time < 2 ^ 64) × IsHost host → AreTexts host time config pack index snapshot → IsGivenBack config pack index snapshot

-- it is backed up so; more events lead from there to a world in which a second client, a prune, is done: it put the index again, and the pack, the index and
-- the snapshot are there still
pub record IsTidied (config pack index snapshot : List ℕ) : Type 0 where
  pub backup : IsBackedUp config pack index snapshot
  pub more : List Event
  pub last : World
  pub run : Run backup.last more last
  pub reported : (client last 0).outcome ≡ Some (stored snapshot)
  pub prunes : (client last 1).job ≡ Job.Prune
  pub pruned : (client last 1).outcome ≡ Some (Outcome.Pruned 0 0)
  pub again : PutDone (client last 1).trace Kind.Index (naming.name index) index
  pub kept : AreStored last pack index snapshot
  pub calm : AreApart config pack index snapshot → HasNoClash last

-- with any such texts there is such a run
abbrev pub PruneIsARun : Type 0
PruneIsARun = (host : List ℕ) (time : ℕ) (config pack index snapshot : List ℕ) → (time < 2 ^ 64) × IsHost host → AreTexts host time config pack index snapshot → IsTidied config pack index snapshot

-- it is backed up so; more events lead from there to a world with two clients, in which the second, a forget of names, forgot the snapshot; and the rest to
-- one in which a third, a prune, deleted the index and the pack, and no object is left
pub record IsForgottenInRun (names : List Name) (config pack index snapshot : List ℕ) : Type 0 where
  pub backup : IsBackedUp config pack index snapshot
  pub more : List Event
  pub mid : World
  pub begun : Run backup.last more mid
  pub two : length mid.clients ≡ 2
  pub forgot : ((client mid 1).job ≡ Job.Forget (Choice.Names names)) × ((client mid 1).outcome ≡ Some (Outcome.Forgotten (naming.name snapshot ∷ [])))
  pub rest : List Event
  pub last : World
  pub run : Run mid rest last
  pub forgets : (client last 1).job ≡ Job.Forget (Choice.Names names)
  pub forgotten : (client last 1).outcome ≡ Some (Outcome.Forgotten (naming.name snapshot ∷ []))
  pub prunes : (client last 2).job ≡ Job.Prune
  pub pruned : (client last 2).outcome ≡ Some (Outcome.Pruned 1 0)
  pub index_deleted : DeleteDone (client last 2).trace Kind.Index (naming.name index)
  pub pack_deleted : DeleteDone (client last 2).trace Kind.Pack (naming.name pack)
  pub none_left : (k : Kind) (n : Name) → last.store.objects k n ≡ None
  pub calm : AreApart config pack index snapshot → HasNoClash last

-- with any such texts, and any names that the snapshot's is among, there is such a run
abbrev pub ForgetIsARun : Type 0
ForgetIsARun = (host : List ℕ) (time : ℕ) (config pack index snapshot : List ℕ) (names : List Name) → (time < 2 ^ 64) × IsHost host → AreTexts host time config pack index snapshot → Contains names (naming.name snapshot)
    → IsForgottenInRun names config pack index snapshot
