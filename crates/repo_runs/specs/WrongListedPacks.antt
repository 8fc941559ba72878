-- A wrong rule, as an example: a prune that fixes what it deletes, the listed packs that aren't kept, before it puts what it repacks.
use Rattle.std.specs.Prelude.{◌≡◌, ℕ, List, Some, Contains}
use Rattle.repo_name.specs.declared.kinds.Kind.{Kind}
use Rattle.repo_name.specs.declared.names.Name.{Name}
use Rattle.repo_index.specs.IndexText.{Says}
use Rattle.repo_index.specs.declared.facts.Fact.{Fact}
use Rattle.repo_index.specs.declared.facts.PackFacts.{PackFacts}
use Rattle.repo_store.specs.Stores.{Objects, Removed}
use Rattle.repo_session.specs.Soundness.{IsSound}
use Rattle.repo_session.specs.Told.{AskedToPut}
use Rattle.repo_session.specs.Traces.{Trace, IsListed, Lists}
use Rattle.repo_writing.specs.Putting.{IsKeptPack}
use Rattle.repo_prune.specs.Pruning.{IsSettled, AreReplaced}

-- what it deletes: as the rule has it, but in place of a pack that wasn't put, and that no index put lists, one that isn't kept
pub record MayDeleteUnkept (es : Trace) (n : Name) : Type 0 where
  pub packs : List PackFacts
  pub settled : IsSettled es packs
  pub replaced : AreReplaced es
  pub all : IsListed Kind.Pack es
  pub among : Lists es Kind.Pack n
  pub unkept : (listed : PackFacts) → Contains packs listed → listed.pack ≡ n → ¬ IsKeptPack es listed

-- what it repacks may have the name of a pack that was listed, as one that a prune before it put and didn't come to list: that pack is put anew, a new index
-- names it, and it goes: the store isn't sound any more
abbrev pub UnkeptBreakSound : Type 0
UnkeptBreakSound = (es : Trace) (old new : Objects) (n i : Name) (text : List ℕ) (fact : Fact) → MayDeleteUnkept es n → AskedToPut es Kind.Pack n
    → old Kind.Index i ≡ Some text → Says text fact → fact.place.pack ≡ n → Removed old Kind.Pack n new → ¬ IsSound new
