-- Packs that facts name, and that aren't listed.
use Rattle.std.specs.Prelude.{◌≡◌, List, Option, Some, None, Contains}
use Rattle.repo_name.specs.Naming.{Before}
use Rattle.repo_name.specs.declared.names.Name.{Name}
use Rattle.repo_index.specs.declared.facts.Fact.{Fact}

-- one of these facts is of this pack, which isn't among those listed; and each lesser pack of one of them is
pub record IsUnlisted (facts : List Fact) (listed : List Name) (pack : Name) : Type 0 where
  pub fact : Fact
  pub among : Contains facts fact
  pub of_pack : fact.place.pack ≡ pack
  pub unlisted : ¬ Contains listed pack
  pub least : (other : Fact) → Contains facts other → Before other.place.pack pack → Contains listed other.place.pack

-- the pack of each of these facts is listed
abbrev pub AreAllIn : List Fact → List Name → Type 0
AreAllIn facts listed = (fact : Fact) → Contains facts fact → Contains listed fact.place.pack

-- what is found: the least pack of these facts that isn't listed; or nothing, where all are
abbrev pub FindsUnlisted : List Fact → List Name → Option Name → Type 0
FindsUnlisted facts listed None = AreAllIn facts listed
FindsUnlisted facts listed (Some pack) = IsUnlisted facts listed pack
