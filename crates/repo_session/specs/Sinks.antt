-- What a driver hands to its sink of what a client gives out.
use Rattle.std.specs.Prelude.{◌≡◌, ◌++◌, ◌∷◌, [], Bool, true, false, List}
use Rattle.std.specs.List.{FoldsTo}
use Rattle.repo_session.specs.declared.emissions.Emission.{Emission}
use Rattle.repo_session.specs.Talks.{Talk, given_in}

-- a sink was called with each of these, one after another, and took it; Called is one call, with its answer
abbrev pub AreTaken : {F : Type 0} → (F → Emission → Bool → F → Type 0) → F → List Emission → F → Type 0
AreTaken Called old emissions new = FoldsTo (λ f emission g. Called f emission true g) old emissions new

-- it took the first of these, and was called with the next, which it didn't take, and with none after that
pub record StopsAt {F : Type 0} (Called : F → Emission → Bool → F → Type 0) (old : F) (emissions : List Emission) (new : F) : Type 0 where
  pub first : List Emission
  pub emission : Emission
  pub later : List Emission
  pub order : emissions ≡ first ++ emission ∷ later
  pub mid : F
  pub taken : AreTaken Called old first mid
  pub refused : Called mid emission false new

-- it took all that was given out before the last reply, and stopped at some part of what that reply gave out
abbrev pub StopsAtLast : {F : Type 0} → (F → Emission → Bool → F → Type 0) → F → Talk → F → Type 0
StopsAtLast Called old [] new = ⊥
StopsAtLast {F} Called old (turn ∷ talk) new = (mid : F) × AreTaken Called old (given_in talk) mid × StopsAt Called mid turn.emitted new

-- what was given out in a talk was handed on, each part once and in their order: where the sink stopped it up to the part that it didn't take, and else all
pub record IsHandedOn {F : Type 0} (Called : F → Emission → Bool → F → Type 0) (Stopped : Type 0) (old : F) (talk : Talk) (new : F) : Type 0 where
  pub all : ¬ Stopped → AreTaken Called old (given_in talk) new
  pub some : Stopped → StopsAtLast Called old talk new
