-- What holds of a prune that is alone with its store, by the definitions alone.
use Rattle.std.specs.Prelude.{◌≡◌, ◌⊎◌, ◌<◌, ◌^◌, ◌-◌, ◌↔◌, ⊤, ℕ, true, false, List, length, slice_get, Option, Some, None}
use Rattle.repo_name.specs.declared.kinds.BlobKind.{BlobKind}
use Rattle.repo_name.specs.declared.kinds.Kind.{Kind}
use Rattle.repo_name.specs.declared.names.Name.{Name}
use Rattle.repo_wire.specs.declared.messages.Code.{Code}
use Rattle.repo_wire.specs.declared.messages.Request.{Request}
use Rattle.repo_store.specs.Laws.{greatest_count}
use Rattle.repo_store.specs.Stores.{Store, Objects}
use Rattle.repo_pack.specs.PackLayout.{Item, IsTruePack}
use Rattle.repo_index.specs.Exactness.{fact_at}
use Rattle.repo_index.specs.IndexText.{Says}
use Rattle.repo_index.specs.declared.facts.Fact.{Fact}
use Rattle.repo_tree.specs.SnapshotText.{IsSnapshotText}
use Rattle.repo_tree.specs.Spelling.{Reach}
use Rattle.repo_tree.specs.declared.snapshots.Snapshot.{Snapshot}
use Rattle.repo_session.specs.Versions.{upto}
use Rattle.repo_session.specs.Alone.{IsFit, AreVersionsUpto, IsSent, IsSpoken, NoClash}
use Rattle.repo_session.specs.Askers.{Asker}
use Rattle.repo_session.specs.Clients.{IsObedientBy}
use Rattle.repo_session.specs.Soundness.{IsHeld, IsSound}
use Rattle.repo_session.specs.Talks.{Talk, trace_of, TalkRan, MayBeAhead}
use Rattle.repo_session.specs.Traces.{Trace}
use Rattle.repo_session.specs.declared.outcomes.End.{End}
use Rattle.repo_session.specs.declared.outcomes.Outcome.{Outcome}
use Rattle.repo_prune.specs.Pruning.{prune_rule, prune_task}

-- no two of the objects of a store and of those that were put or are about to be, and of the blobs in these packs, have one name
abbrev pub AreApart : Store → Trace → Option Request → Type 0
AreApart from es next = NoClash (IsSpoken (λ x. ⊥) from (IsSent es next))

-- both have the same snapshots
abbrev pub HaveSameSnapshots : Store → Store → Type 0
HaveSameSnapshots from to = (n : Name) (x : List ℕ) → (to.objects Kind.Snapshot n ≡ Some x) ↔ (from.objects Kind.Snapshot n ≡ Some x)

-- a prune leaves the snapshots as they are, and a sound store sound: after every exchange, whatever the store says, and also where it is one step ahead
abbrev pub PruneKeepsSound : Type 0
PruneKeepsSound = (who : Asker) (from mid to : Store) (failed failing : ℕ) (talk : Talk) (next : Option Request) (outcome : Option Outcome)
    → IsSound from.objects → AreApart from (trace_of talk) next → TalkRan from failed talk mid failing → MayBeAhead mid next to → IsObedientBy prune_rule who next outcome (trace_of talk) → HaveSameSnapshots from to × IsSound to.objects

-- a prune alone with a store in which it finds all that it wants, which isn't one that only appends, and whose device doesn't fail, is done at its end, or
-- the store had no memory
abbrev pub IsPrunedOrMemory : Option Outcome → Type 0
IsPrunedOrMemory None = ⊥
IsPrunedOrMemory (Some (Outcome.Pruned packs bytes)) = ⊤
IsPrunedOrMemory (Some outcome) = outcome ≡ Outcome.Ended (End.Refused Code.NoMemory)

abbrev pub PruneEndsWell : Type 0
PruneEndsWell = (who : Asker) (from to : Store) (failed : ℕ) (talk : Talk) (outcome : Option Outcome)
    → IsFit from → AreVersionsUpto (upto (prune_task who).versions) from → from.append_only ≡ false → AreApart from (trace_of talk) None → failed < greatest_count → TalkRan from failed talk to failed → length talk < 2 ^ 64 - 1 → IsObedientBy prune_rule who None outcome (trace_of talk) → IsPrunedOrMemory outcome

-- a prune alone with a store in which it finds all that it wants, which only appends, and whose device doesn't fail, prunes no pack: it is refused for that
-- mode, or is done with no pack deleted, or the store had no memory
abbrev pub PrunesNoPack : Option Outcome → Type 0
PrunesNoPack None = ⊥
PrunesNoPack (Some outcome) = (outcome ≡ Outcome.Ended (End.Refused Code.NoMemory)) ⊎ ((outcome ≡ Outcome.Ended (End.Refused Code.AppendOnly)) ⊎ ((bytes : ℕ) × (outcome ≡ Outcome.Pruned 0 bytes)))

abbrev pub PruneOfAppendOnly : Type 0
PruneOfAppendOnly = (who : Asker) (from to : Store) (failed : ℕ) (talk : Talk) (outcome : Option Outcome)
    → IsFit from → AreVersionsUpto (upto (prune_task who).versions) from → from.append_only ≡ true → AreApart from (trace_of talk) None → failed < greatest_count → TalkRan from failed talk to failed → length talk < 2 ^ 64 - 1 → IsObedientBy prune_rule who None outcome (trace_of talk) → PrunesNoPack outcome

-- ---- what a prune leaves

-- a snapshot among the objects reaches the pair in the blobs held
pub record IsReachedIn (objects : Objects) (k : BlobKind) (n : Name) : Type 0 where
  pub name : Name
  pub text : List ℕ
  pub snapshot : Snapshot
  pub there : objects Kind.Snapshot name ≡ Some text
  pub reads : IsSnapshotText text snapshot
  pub reaches : Reach snapshot.version (IsHeld objects) snapshot.tree k n

-- an index among the objects has the fact
pub record IsListedIn (objects : Objects) (fact : Fact) : Type 0 where
  pub index : Name
  pub text : List ℕ
  pub there : objects Kind.Index index ≡ Some text
  pub says : Says text fact

-- There is just what snapshots need, once: the facts of the indexes are of pairs that snapshots reach; each such pair has a fact; no two facts are of one
-- pair; and each blob of each pack has a fact.
pub record HaveJustWhatIsNeeded (objects : Objects) : Type 0 where
  pub needed : (fact : Fact) → IsListedIn objects fact → IsReachedIn objects fact.kind fact.name
  pub given : (k : BlobKind) (n : Name) → IsReachedIn objects k n → (fact : Fact) × IsListedIn objects fact × (fact.kind ≡ k) × (fact.name ≡ n)
  pub once : (a b : Fact) → IsListedIn objects a → IsListedIn objects b → a.kind ≡ b.kind → a.name ≡ b.name → a ≡ b
  pub packed : (n : Name) (x : List ℕ) (items : List Item) → objects Kind.Pack n ≡ Some x → IsTruePack x items
      → (place : ℕ) (item : Item) → slice_get items place ≡ Some item → IsListedIn objects (fact_at n items place item)

-- where a prune alone with its store is done, the store has just what its snapshots need, once
abbrev pub PruneLeavesWhatIsNeeded : Type 0
PruneLeavesWhatIsNeeded = (who : Asker) (from to : Store) (failed failing : ℕ) (talk : Talk) (next : Option Request) (packs bytes : ℕ)
    → IsSound from.objects → AreApart from (trace_of talk) next → TalkRan from failed talk to failing → IsObedientBy prune_rule who next (Some (Outcome.Pruned packs bytes)) (trace_of talk) → HaveJustWhatIsNeeded to.objects
