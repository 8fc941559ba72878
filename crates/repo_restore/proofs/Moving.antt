-- How each step of a walk brings it on.
use Rattle.std.proofs.Common.{arith, ◌≡◌, ◌≢◌, ◌≤◌, ◌⊎◌, ◌+◌, ◌-◌, ◌++◌, ◌∷◌, [], ℕ, suc, Bool, true, false, List, Option, Some, Result, Ok, Err, IfOk, length, slice_get, inl, inr, refl, sym, ap, subst, ◌∙◌}
use Rattle.std.proofs.lemmas.Option.{same_Some}
use Rattle.repo_name.specs.declared.kinds.BlobKind.{BlobKind}
use Rattle.repo_name.specs.declared.names.Name.{Name}
use Rattle.repo_index.specs.declared.facts.Fact.{Fact}
use Rattle.repo_tree.specs.declared.nodes.Node.{Node}
use Rattle.repo_tree.specs.declared.nodes.NodeKind.{NodeKind}
use Rattle.repo_session.specs.declared.emissions.Emission.{Emission}
use Rattle.repo_restore.specs.declared.nodes.Begun.{Begun}
use Rattle.repo_restore.specs.declared.nodes.Level.{Level}
use Rattle.repo_restore.specs.declared.walks.Turn.{Turn}
use Rattle.repo_restore.specs.declared.walks.Walk.{Walk}
use Rattle.repo_restore.specs.Moves.{GivesNodes, NextMoves, HasNoneBehind, GivesLevels, HasMoved, StopMoves, AsksFor, GivesSome, TreeMoves, BlobMoves}
use Rattle.repo_restore.specs.Nodes.{PartFollows}
use Rattle.repo_restore.specs.Walking.{NodeBegins, IsTextBy}
use Rattle.repo_restore.proofs.Passing.{last_level, last_got}

-- what was put behind is there
pub some_put : {A : Type 0} (old new : List A) (x : A) (more : List A) → new ≡ old ++ x ∷ more → new ≢ []
some_put [] new x more is = λ h. (let w : [] ≡ x ∷ more = sym h ∙ is in absurd (cc))
some_put (o ∷ old) new x more is = λ h. (let w : [] ≡ o ∷ (old ++ x ∷ more) = sym h ∙ is in absurd (cc))

pub node_done : (facts : List Fact) (tree : Name) (path : List (List ℕ)) (what : NodeKind) (old new : List Emission) → NodeBegins facts tree path what old new Begun.Done → new ≢ []
node_done facts tree path (NodeKind.Dir subtree) old new h = absurd h
node_done facts tree path (NodeKind.File size content) old new h = some_put old new (Emission.File path) (Emission.Close ∷ []) h.2

pub node_waits : (facts : List Fact) (tree : Name) (path : List (List ℕ)) (what : NodeKind) (old new : List Emission) (fact : Fact) → NodeBegins facts tree path what old new (Begun.Waits fact) → new ≢ []
node_waits facts tree path (NodeKind.Dir subtree) old new fact h = some_put old new (Emission.Dir path) [] h.1
node_waits facts tree path (NodeKind.File size content) old new fact h = some_put old new (Emission.File path) [] h.3

-- all nodes were begun, and the next part is looked up
pub part_moves : (facts : List Fact) (next : Option Name) (what : Begun) (nodes : List Node) (begun : ℕ) (old new : List Emission) → PartFollows facts next what → GivesNodes nodes begun old new → NextMoves nodes begun old new what
part_moves facts next Begun.Done nodes begun old new p g = g
part_moves facts next (Begun.Waits fact) nodes begun old new p g = absurd p
part_moves facts next (Begun.GoesOn fact) nodes begun old new p g = (p.1.0, g)
part_moves facts next (Begun.Ended end) nodes begun old new p g = tt

pub gives_nodes : (nodes : List Node) (begun at : ℕ) (old new : List Emission) → (new ≢ []) ⊎ ((new ≡ old) × (at ≡ begun)) → length nodes ≤ at → GivesNodes nodes begun old new
gives_nodes nodes begun at old new (inl some) past = inl some
gives_nodes nodes begun at old new (inr same) past = inr (same.0, omega (arith, past, same.1))

-- one level more
pub level_moves : (levels : List Level) (depth begun up now : ℕ) (level : Level) (old mid new : List Emission) → slice_get levels depth ≡ Some level → suc depth + up ≡ length levels → HasMoved levels begun old up now mid → GivesNodes level.nodes.items now mid new
    → GivesLevels levels begun old new
level_moves levels depth begun up now level old mid new got many moved (inl some) = inl some
level_moves levels depth begun up now level old mid new got many (inl first) (inr none) =
    let at : depth ≡ length levels - 1 = omega (arith, many, first.0) in
    inr (none.0 ∙ first.1, (level, ap (λ i. slice_get levels i) (sym at) ∙ got, omega (arith, none.1, first.2)))
level_moves levels depth begun up now level old mid new got many (inr (inl some)) (inr none) = inl (λ h. some (sym none.0 ∙ h))
level_moves levels depth begun up now level old mid new got many (inr (inr same)) (inr none) = inr (none.0 ∙ same.0, same.1)

-- ---- what comes of a step

pub tree_moves : (levels : List Level) (what : Begun) (old out : List Emission) (nodes : List Node) (turn : Turn) (new : Walk) → StopMoves levels 0 old out what → AsksFor what turn new → (HasNoneBehind levels 0 → nodes ≡ []) → TreeMoves nodes out turn new
tree_moves levels what old out nodes (Turn.Ask fact) new moves (inl waits) none = inl (subst (λ b. StopMoves levels 0 old out b) waits moves)
tree_moves levels what old out nodes (Turn.Ask fact) new moves (inr on) none = by (subst (λ b. StopMoves levels 0 old out b) on.0 moves)
  where
    by : (fact.kind ≡ BlobKind.Tree) × GivesLevels levels 0 old out → (out ≢ []) ⊎ ((new.onward ≡ true) × (fact.kind ≡ BlobKind.Tree) × (nodes ≡ []))
    by (kind, inl some) = inl some
    by (kind, inr same) = inr (on.1, kind, none same.1)
tree_moves levels what old out nodes (Turn.Complete count) new moves asks none = tt
tree_moves levels what old out nodes (Turn.Ended end) new moves asks none = tt

-- of the level that was put last all nodes were begun
pub none_of : (levels above : List Level) (level : Level) → levels ≡ above ++ level ∷ [] → HasNoneBehind levels 0 → level.nodes.items ≡ []
none_of levels above level are h =
    let same : h.0 ≡ level = same_Some h.0 level (sym h.1 ∙ last_got levels above level are) in
    no_items level.nodes.items (subst (λ (l : Level). length l.nodes.items ≤ 0) same h.2)
  where
    no_items : (nodes : List Node) → length nodes ≤ 0 → nodes ≡ []
    no_items [] few = refl
    no_items (n ∷ nodes) few = absurd (omega (arith, few))

-- so of the one that was put in the last one's place
pub none_replaced : (old new : List Level) (level : Level) → ((above : List Level) (last : Level) → old ≡ above ++ last ∷ [] → new ≡ above ++ level ∷ []) → (old ≡ [] → new ≡ []) → HasNoneBehind new 0 → level.nodes.items ≡ []
none_replaced old new level some none h = by (last_level old)
  where
    nothing : (levels : List Level) → levels ≡ [] → HasNoneBehind levels 0 → ⊥
    nothing [] is none_behind = let got = none_behind.1 in absurd (cc)
    nothing (l ∷ levels) is none_behind = absurd (cc)

    by : (old ≡ []) ⊎ ((above : List Level) × (last : Level) × (old ≡ above ++ last ∷ [])) → level.nodes.items ≡ []
    by (inl empty) = absurd (nothing new (none empty) h)
    by (inr last) = none_of new last.0 level (some last.0 last.1 last.2) h

-- where there are nodes something was given out
pub nodes_move : (nodes : List Node) (out : List Emission) (turn : Turn) (new : Walk) → nodes ≢ [] → TreeMoves nodes out turn new → GivesSome out turn
nodes_move nodes out (Turn.Ask fact) new some (inl given) = given
nodes_move nodes out (Turn.Ask fact) new some (inr none) = absurd (some none.2)
nodes_move nodes out (Turn.Complete count) new some moves = tt
nodes_move nodes out (Turn.Ended end) new some moves = tt

-- and where there was something before
pub some_moves : (levels : List Level) (begun : ℕ) (what : Begun) (old out : List Emission) (turn : Turn) (new : Walk) → old ≢ [] → StopMoves levels begun old out what → AsksFor what turn new → GivesSome out turn
some_moves levels begun what old out (Turn.Ask fact) new some moves (inl waits) = subst (λ b. StopMoves levels begun old out b) waits moves
some_moves levels begun what old out (Turn.Ask fact) new some moves (inr on) = by (subst (λ b. StopMoves levels begun old out b) on.0 moves)
  where
    by : (fact.kind ≡ BlobKind.Tree) × GivesLevels levels begun old out → out ≢ []
    by (kind, inl given) = given
    by (kind, inr same) = λ h. some (sym same.0 ∙ h)
some_moves levels begun what old out (Turn.Complete count) new some moves asks = tt
some_moves levels begun what old out (Turn.Ended end) new some moves asks = tt

-- a part that is taken gives something out
pub part_gives : {E : Type 0} (nodes : List Node) (out : List Emission) (new : Walk) (result : Result Turn E) → IfOk result (GivesSome out) → IfOk result (λ turn. TreeMoves nodes out turn new)
part_gives nodes out new (Ok (Turn.Ask fact)) given = inl given
part_gives nodes out new (Ok (Turn.Complete count)) given = tt
part_gives nodes out new (Ok (Turn.Ended end)) given = tt
part_gives nodes out new (Err e) given = tt

pub content_gives : {E : Type 0} (version : ℕ) (fact : Fact) (bytes : List ℕ) (old : Walk) (out : List Emission) (new : Walk) (result : Result Turn E) → IfOk result (GivesSome out) → IfOk result (λ turn. BlobMoves version fact bytes old out turn new)
content_gives version fact bytes old out new (Ok (Turn.Ask next)) given = inl given
content_gives version fact bytes old out new (Ok (Turn.Complete count)) given = tt
content_gives version fact bytes old out new (Ok (Turn.Ended end)) given = tt
content_gives version fact bytes old out new (Err e) given = tt

-- a tree that is taken, by its text
module _ (version : ℕ) (fact : Fact) (bytes : List ℕ) (old : Walk) (nodes : List Node) (after : Option Name) (out : List Emission) (new : Walk) (kind : fact.kind ≡ BlobKind.Tree) (reads : IsTextBy version bytes nodes after) where
  asked : (next : Fact) (onward : Bool) → old.onward ≡ onward → TreeMoves nodes out (Turn.Ask next) new → (old.onward ≡ true → out ≢ []) → BlobMoves version fact bytes old out (Turn.Ask next) new
  asked next onward is (inl some) parts = inl some
  asked next true is (inr none) parts = inl (parts is)
  asked next false is (inr none) parts = inr (none.0, none.1, is, kind, (after, subst (λ ns. IsTextBy version bytes ns after) none.2 reads))

  pub text_moves : {E : Type 0} (result : Result Turn E) → IfOk result (λ turn. TreeMoves nodes out turn new) → (old.onward ≡ true → IfOk result (GivesSome out)) → IfOk result (λ turn. BlobMoves version fact bytes old out turn new)
  text_moves (Ok (Turn.Ask next)) moves parts = asked next old.onward refl moves parts
  text_moves (Ok (Turn.Complete count)) moves parts = tt
  text_moves (Ok (Turn.Ended end)) moves parts = tt
  text_moves (Err e) moves parts = tt
