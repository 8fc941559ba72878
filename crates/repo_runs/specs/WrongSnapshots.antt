-- A wrong rule, as an example: a backup that puts its snapshot before its index.
use Rattle.std.specs.Prelude.{◌≡◌, ℕ, List, None}
use Rattle.repo_name.specs.declared.kinds.BlobKind.TheVariants.{Tree}
use Rattle.repo_name.specs.declared.kinds.Kind.{Kind}
use Rattle.repo_name.specs.declared.names.Name.{Name}
use Rattle.repo_tree.specs.SnapshotText.{IsSnapshotText}
use Rattle.repo_tree.specs.Spelling.{HasPair}
use Rattle.repo_tree.specs.declared.snapshots.Snapshot.{Snapshot}
use Rattle.repo_store.specs.Stores.{Objects, Added}
use Rattle.repo_session.specs.Catalogs.{AreIndexed}
use Rattle.repo_session.specs.Soundness.{IsHeld, IsSound}
use Rattle.repo_session.specs.Traces.{Trace}

-- what it puts: a snapshot's text, where every index was read, whether or not an index gives its blobs
pub record MayPutSnapshotFirst (es : Trace) (text : List ℕ) : Type 0 where
  pub indexes : AreIndexed es
  pub snapshot : Snapshot
  pub reads : IsSnapshotText text snapshot

-- no index among the objects gives its root tree: the store with it isn't sound any more
abbrev pub SnapshotFirstBreaksSound : Type 0
SnapshotFirstBreaksSound = (es : Trace) (old new : Objects) (n : Name) (text : List ℕ) → (may : MayPutSnapshotFirst es text)
    → ¬ HasPair (IsHeld old) Tree may.snapshot.tree → old Kind.Snapshot n ≡ None → Added old Kind.Snapshot n text new → ¬ IsSound new
