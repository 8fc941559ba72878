-- Names of files that are being written.
use Rattle.std.specs.Prelude.{◌≡◌, ◌++◌, ℕ, List, codes}

-- the name of a file while it is written
abbrev pub draft_of : List ℕ → List ℕ
draft_of name = name ++ codes ".vault-part"

-- a file of this name is being written
abbrev pub IsDraft : List ℕ → Type 0
IsDraft draft = (name : List ℕ) × (draft ≡ draft_of name)
