-- What beginning a node gives.
use Rattle.std.specs.Prelude.{◌≡◌, ◌≢◌, ◌⊎◌, ◌++◌, ◌∷◌, [], ℕ, List, slice_get, Option, Some, None}
use Rattle.repo_name.specs.declared.kinds.BlobKind.{BlobKind}
use Rattle.repo_name.specs.declared.kinds.Thing.{Thing}
use Rattle.repo_name.specs.declared.names.Name.{Name}
use Rattle.repo_index.specs.declared.facts.Fact.{Fact}
use Rattle.repo_index.specs.Lookups.{IsLeast}
use Rattle.repo_session.specs.declared.emissions.Emission.{Emission}
use Rattle.repo_session.specs.declared.outcomes.End.{End}
use Rattle.repo_restore.specs.declared.nodes.Begun.{Begun}
use Rattle.repo_session.specs.Catalogs.{IsBlobNowhere}
use Rattle.repo_restore.specs.Restoring.{Sums}
use Rattle.repo_restore.specs.Walks.{LacksFirst}

-- the blob of this kind and name comes next
abbrev pub WaitsFor : List Fact → BlobKind → Name → Fact → Type 0
WaitsFor facts kind name fact = (fact.kind ≡ kind) × (fact.name ≡ name) × IsLeast facts kind name fact.place

-- the next blob of a file, or its close
abbrev pub BlobFollows : List Fact → List Name → ℕ → List Emission → List Emission → Begun → Type 0
BlobFollows facts content sent old new Begun.Done = (slice_get content sent ≡ None) × (new ≡ old ++ Emission.Close ∷ [])
BlobFollows facts content sent old new (Begun.Waits fact) = (slice_get content sent ≡ Some fact.name) × WaitsFor facts BlobKind.Content fact.name fact × (new ≡ old)
BlobFollows facts content sent old new (Begun.GoesOn fact) = ⊥
BlobFollows facts content sent old new (Begun.Ended end) = (name : Name) × (end ≡ End.Missing Thing.Content name) × (slice_get content sent ≡ Some name) × IsBlobNowhere facts BlobKind.Content name × (new ≡ old)

-- the part behind is looked up, if there is one
abbrev pub PartFollows : List Fact → Option Name → Begun → Type 0
PartFollows facts next Begun.Done = next ≡ None
PartFollows facts next (Begun.Waits fact) = ⊥
PartFollows facts next (Begun.GoesOn fact) = (next ≡ Some fact.name) × WaitsFor facts BlobKind.Tree fact.name fact
PartFollows facts next (Begun.Ended end) = (name : Name) × (next ≡ Some name) × (end ≡ End.Missing Thing.Tree name) × IsBlobNowhere facts BlobKind.Tree name

-- a directory is given out, and its tree looked up
abbrev pub DirBegins : List Fact → List (List ℕ) → Name → List Emission → List Emission → Begun → Type 0
DirBegins facts path subtree old new Begun.Done = ⊥
DirBegins facts path subtree old new (Begun.Waits fact) = WaitsFor facts BlobKind.Tree subtree fact × (new ≡ old ++ Emission.Dir path ∷ [])
DirBegins facts path subtree old new (Begun.GoesOn fact) = ⊥
DirBegins facts path subtree old new (Begun.Ended end) = (end ≡ End.Missing Thing.Tree subtree) × IsBlobNowhere facts BlobKind.Tree subtree × (new ≡ old ++ Emission.Dir path ∷ [])

-- a file's blobs are looked up, and its beginning is given out where all have places and its size
abbrev pub FileBegins : List Fact → Name → List (List ℕ) → ℕ → List Name → List Emission → List Emission → Begun → Type 0
FileBegins facts tree path size content old new Begun.Done = (content ≡ []) × (size ≡ 0) × (new ≡ old ++ Emission.File path ∷ Emission.Close ∷ [])
FileBegins facts tree path size content old new (Begun.Waits fact) = (slice_get content 0 ≡ Some fact.name) × WaitsFor facts BlobKind.Content fact.name fact × Sums facts content size × (new ≡ old ++ Emission.File path ∷ [])
FileBegins facts tree path size content old new (Begun.GoesOn fact) = ⊥
FileBegins facts tree path size content old new (Begun.Ended end) = (new ≡ old)
    × (((name : Name) × (end ≡ End.Missing Thing.Content name) × LacksFirst facts content name) ⊎ ((end ≡ End.BadObject Thing.Tree tree) × ((total : ℕ) × Sums facts content total × (total ≢ size))))
