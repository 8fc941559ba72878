-- Texts that are names.
use Rattle.std.specs.Prelude.{◌≡◌, ℕ, List}
use Rattle.repo_name.specs.Naming.{hex_of, IsName}
use Rattle.repo_name.specs.declared.names.Name.{Name}

-- a text is that of a name
abbrev pub IsId : List ℕ → Name → Type 0
IsId id name = IsName name × (id ≡ hex_of name)

-- the text is that of no name
abbrev pub NamesNothing : List ℕ → Type 0
NamesNothing id = (name : Name) → ¬ IsId id name
