-- What the notes of a round, and the visits of a walk, give together.
use Rattle.std.specs.Prelude.{◌↔◌, ◌∷◌, [], IsTrue, List, Option, Some, None, Contains}
use Rattle.std.specs.BTreeSet.{BTreeSet, contains}
use Rattle.std.specs.List.Sorted.{IsStrictlySortedBy}
use Rattle.repo_name.specs.Naming.{name_cmp}
use Rattle.repo_name.specs.declared.names.Name.{Name}
use Rattle.repo_index.specs.IndexText.{facts_in}
use Rattle.repo_index.specs.declared.facts.Fact.{Fact}
use Rattle.repo_index.specs.declared.facts.PackFacts.{PackFacts}
use Rattle.repo_reach.specs.declared.roots.Root.{Root}
use Rattle.repo_session.specs.declared.outcomes.FaultKind.{FaultKind}
use Rattle.repo_check.specs.Keeping.{KeptTrees}
use Rattle.repo_check.specs.Visiting.{IsGiven}
use Rattle.repo_check.specs.declared.rounds.Note.{Note}
use Rattle.repo_check.specs.declared.visiting.Gift.{Gift}
use Rattle.repo_check.specs.declared.visiting.Visit.{Visit}

-- the facts of an index, if it reads
abbrev pub facts_noted : Note (List PackFacts) → List Fact
facts_noted (Note.Well packs) = facts_in packs
facts_noted (Note.Fault what) = []

-- the root of a snapshot, if it reads
abbrev pub root_noted : Note Root → List Root
root_noted (Note.Well root) = root ∷ []
root_noted (Note.Fault what) = []

-- what is at fault of an object, if something is
abbrev pub fault_noted : {T : Type 0} → Note T → Option FaultKind
fault_noted (Note.Well x) = None
fault_noted (Note.Fault what) = Some what

-- what an object gives, if it reads
abbrev pub well_noted : {T : Type 0} → Note T → Option T
well_noted (Note.Well x) = Some x
well_noted (Note.Fault what) = None

-- ---- of visits

-- the set has just what visits give
abbrev pub HasGiven : Gift → KeptTrees → List Visit → BTreeSet Name → Type 0
HasGiven gift trees visits set = (n : Name) → IsTrue (contains name_cmp set n) ↔ IsGiven gift trees visits n

-- these are the names that visits give, each once and ascending
pub record AreGiven (gift : Gift) (trees : KeptTrees) (visits : List Visit) (names : List Name) : Type 0 where
  pub each : (n : Name) → Contains names n ↔ IsGiven gift trees visits n
  pub ascend : IsStrictlySortedBy name_cmp names
