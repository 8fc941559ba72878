-- Where the entries of a folder lie in the file system.
use Rattle.std.specs.Prelude.{◌++◌, ◌∷◌, ℕ, List, flat_map}

-- a component after a `/`
abbrev pub step_of : List ℕ → List ℕ
step_of name = 47 ∷ name

-- the place of a path below a folder
abbrev pub place_of : List ℕ → List (List ℕ) → List ℕ
place_of folder path = folder ++ flat_map step_of path
