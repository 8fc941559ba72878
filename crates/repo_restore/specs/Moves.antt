-- How each step of a walk brings it on: something is given out, or what was there to give out is nothing.
use Rattle.std.specs.Prelude.{◌≡◌, ◌≢◌, ◌≤◌, ◌⊎◌, ◌-◌, [], ⊤, ℕ, true, false, List, length, slice_get, Option, Some}
use Rattle.repo_name.specs.declared.kinds.BlobKind.{BlobKind}
use Rattle.repo_name.specs.declared.names.Name.{Name}
use Rattle.repo_index.specs.declared.facts.Fact.{Fact}
use Rattle.repo_tree.specs.declared.nodes.Node.{Node}
use Rattle.repo_session.specs.declared.emissions.Emission.{Emission}
use Rattle.repo_restore.specs.declared.nodes.Begun.{Begun}
use Rattle.repo_restore.specs.declared.nodes.Level.{Level}
use Rattle.repo_restore.specs.declared.walks.Turn.{Turn}
use Rattle.repo_restore.specs.declared.walks.Walk.{Walk}
use Rattle.repo_restore.specs.Walking.{IsTextBy}

-- there is something now, or as before, as all nodes were begun
abbrev pub GivesNodes : List Node → ℕ → List Emission → List Emission → Type 0
GivesNodes nodes begun old new = (new ≢ []) ⊎ ((new ≡ old) × (length nodes ≤ begun))

-- what beginning a level's next nodes gives out: something where a node waits; and where all were begun, unless they were before
abbrev pub NextMoves : List Node → ℕ → List Emission → List Emission → Begun → Type 0
NextMoves nodes begun old new Begun.Done = GivesNodes nodes begun old new
NextMoves nodes begun old new (Begun.Waits fact) = new ≢ []
NextMoves nodes begun old new (Begun.GoesOn fact) = (fact.kind ≡ BlobKind.Tree) × GivesNodes nodes begun old new
NextMoves nodes begun old new (Begun.Ended end) = ⊤

-- of the innermost level so many nodes are all
abbrev pub HasNoneBehind : List Level → ℕ → Type 0
HasNoneBehind levels begun = (level : Level) × (slice_get levels (length levels - 1) ≡ Some level) × (length level.nodes.items ≤ begun)

-- there is something now, or as before, as all nodes of the innermost level were begun
abbrev pub GivesLevels : List Level → ℕ → List Emission → List Emission → Type 0
GivesLevels levels begun old new = (new ≢ []) ⊎ ((new ≡ old) × HasNoneBehind levels begun)

-- so many levels are done, and so many nodes of the next one were begun: before the first is done nothing changed
abbrev pub HasMoved : List Level → ℕ → List Emission → ℕ → ℕ → List Emission → Type 0
HasMoved levels begun old done now new = ((done ≡ 0) × (new ≡ old) × (now ≡ begun)) ⊎ GivesLevels levels begun old new

-- what going on over all levels gives out: something where it stops at a node; and where it stops at a further part, unless all nodes were begun before
abbrev pub StopMoves : List Level → ℕ → List Emission → List Emission → Begun → Type 0
StopMoves levels begun old new Begun.Done = ⊤
StopMoves levels begun old new (Begun.Waits fact) = new ≢ []
StopMoves levels begun old new (Begun.GoesOn fact) = (fact.kind ≡ BlobKind.Tree) × GivesLevels levels begun old new
StopMoves levels begun old new (Begun.Ended end) = ⊤

-- ---- what comes of a step

-- what is asked for is what the stop waits for; it is remembered where that is a further part
abbrev pub AsksFor : Begun → Turn → Walk → Type 0
AsksFor what (Turn.Ask fact) new = (what ≡ Begun.Waits fact) ⊎ ((what ≡ Begun.GoesOn fact) × (new.onward ≡ true))
AsksFor what _ new = ⊤

-- where more is asked for, something was given out
abbrev pub GivesSome : List Emission → Turn → Type 0
GivesSome out (Turn.Ask fact) = out ≢ []
GivesSome out _ = ⊤

-- or there are no nodes, and a further part is asked for
abbrev pub TreeMoves : List Node → List Emission → Turn → Walk → Type 0
TreeMoves nodes out (Turn.Ask fact) new = (out ≢ []) ⊎ ((new.onward ≡ true) × (fact.kind ≡ BlobKind.Tree) × (nodes ≡ []))
TreeMoves nodes out _ new = ⊤

-- or a directory's own tree was waited for, and has none
abbrev pub BlobMoves : ℕ → Fact → List ℕ → Walk → List Emission → Turn → Walk → Type 0
BlobMoves version fact bytes old out (Turn.Ask next) new = (out ≢ [])
    ⊎ ((new.onward ≡ true) × (next.kind ≡ BlobKind.Tree) × (old.onward ≡ false) × (fact.kind ≡ BlobKind.Tree) × ((after : Option Name) × IsTextBy version bytes [] after))
BlobMoves version fact bytes old out _ new = ⊤
