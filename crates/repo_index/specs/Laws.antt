-- What holds of index texts.
use Rattle.std.specs.Prelude.{◌≡◌, ℕ, List}
use Rattle.repo_index.specs.IndexText.{IsIndexText}
use Rattle.repo_index.specs.IndexWriting.{AreLawful}
use Rattle.repo_index.specs.declared.facts.PackFacts.{PackFacts}

-- bytes are the text of one list at most
abbrev pub IndexTextsAreOne : Type 0
IndexTextsAreOne = (bytes : List ℕ) (a b : List PackFacts) → IsIndexText bytes a → IsIndexText bytes b → a ≡ b

-- in an index that bytes are the text of, each fact is of the pack that lists it, and within range
abbrev pub IndexTextsAreLawful : Type 0
IndexTextsAreLawful = (bytes : List ℕ) (packs : List PackFacts) → IsIndexText bytes packs → AreLawful packs
