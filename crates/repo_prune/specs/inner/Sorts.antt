-- Of which sort a reply is.
use Rattle.std.specs.Prelude.{◌≡◌, ℕ, List}
use Rattle.repo_wire.specs.declared.messages.Say.{Say}

-- bytes
abbrev pub IsBytes : Say → Type 0
IsBytes say = (x : List ℕ) × (say ≡ Say.Bytes x)
