-- What a restorer takes.
use Rattle.std.specs.Prelude.{◌≡◌, ⊤, Bool, true, false}
use Rattle.repo_tree.specs.Paths.{IsPath}
use Rattle.repo_files.specs.declared.phases.Standing.{Standing}
use Rattle.repo_files.specs.declared.phases.Phase.{Phase}
use Rattle.repo_files.specs.declared.phases.Phase.TheVariants as phase
use Rattle.repo_session.specs.declared.emissions.Emission.{Emission}
use Rattle.repo_session.specs.declared.emissions.Emission.TheVariants as emission
use Rattle.repo_session.specs.Rebuilding.{MayBeGivenOut}

-- where a restorer stands
abbrev pub standing_of : {F : Type 0} → Phase F → Standing
standing_of phase.Untouched = Standing.Untouched
standing_of phase.Between = Standing.Between
standing_of (phase.InFile draft) = Standing.InFile
standing_of phase.Stopped = Standing.Stopped

-- where it stands once something was taken, by whether a file is open
abbrev pub standing : Bool → Standing
standing false = Standing.Between
standing true = Standing.InFile

-- no file is open, and more may be taken
abbrev pub StandsBetween : Standing → Type 0
StandsBetween Standing.Untouched = ⊤
StandsBetween Standing.Between = ⊤
StandsBetween Standing.InFile = ⊥
StandsBetween Standing.Stopped = ⊥

-- the same, by whether a file is open
abbrev pub Stands : Bool → Standing → Type 0
Stands false old = StandsBetween old
Stands true old = old ≡ Standing.InFile

-- a directory and a file are at a path
abbrev pub IsPlaced : Emission → Type 0
IsPlaced (emission.Dir path) = IsPath path
IsPlaced (emission.File path) = IsPath path
IsPlaced (emission.Piece bytes) = ⊤
IsPlaced emission.Close = ⊤

-- what is taken follows in order, as what a restore gives out does, and is at a path
abbrev pub TakesEmission : Standing → Emission → Standing → Type 0
TakesEmission old emission new = (before : Bool) × (after : Bool) × Stands before old × MayBeGivenOut before emission after × (new ≡ standing after) × IsPlaced emission
