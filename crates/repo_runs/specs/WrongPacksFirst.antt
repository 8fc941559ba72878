-- A wrong rule, as an example: a prune that deletes packs before the old indexes.
use Rattle.std.specs.Prelude.{◌≡◌, ℕ, List, Some}
use Rattle.repo_name.specs.declared.kinds.Kind.{Kind}
use Rattle.repo_name.specs.declared.names.Name.{Name}
use Rattle.repo_index.specs.IndexText.{Says}
use Rattle.repo_index.specs.declared.facts.Fact.{Fact}
use Rattle.repo_index.specs.declared.facts.PackFacts.{PackFacts}
use Rattle.repo_store.specs.Stores.{Objects, Removed}
use Rattle.repo_session.specs.Soundness.{IsSound}
use Rattle.repo_session.specs.Told.{AskedToPut}
use Rattle.repo_session.specs.Traces.{Trace, IsListed, Lists}
use Rattle.repo_writing.specs.Writing.{ListsPack}
use Rattle.repo_prune.specs.Pruning.{IsSettled}

-- what it deletes: as the rule has it, but that no old index need be gone
pub record MayDeletePackFirst (es : Trace) (n : Name) : Type 0 where
  pub packs : List PackFacts
  pub settled : IsSettled es packs
  pub all : IsListed Kind.Pack es
  pub among : Lists es Kind.Pack n
  pub unput : ¬ AskedToPut es Kind.Pack n
  pub unlisted : ¬ ListsPack packs n

-- an old index that is still there names the pack: the store isn't sound any more
abbrev pub PacksFirstBreakSound : Type 0
PacksFirstBreakSound = (es : Trace) (old new : Objects) (n i : Name) (text : List ℕ) (fact : Fact) → MayDeletePackFirst es n
    → old Kind.Index i ≡ Some text → Says text fact → fact.place.pack ≡ n → Removed old Kind.Pack n new → ¬ IsSound new
