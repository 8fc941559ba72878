-- The list of faults, from what was found of each thing.
use Rattle.std.specs.Prelude.{◌≡◌, ◌<◌, ◌↔◌, ◌++◌, ◌∷◌, [], ℕ, List, slice_get, Option, Some, None, Contains}
use Rattle.std.specs.List.Sorted.{IsStrictlySortedBy}
use Rattle.repo_name.specs.declared.kinds.Thing.{Thing}
use Rattle.repo_name.specs.declared.names.Name.{Name}
use Rattle.repo_store.specs.Pages.{NamesAscend}
use Rattle.repo_session.specs.declared.outcomes.CheckFault.{CheckFault}
use Rattle.repo_session.specs.declared.outcomes.FaultKind.{FaultKind}
use Rattle.repo_check.specs.Checking.{rank, fault_cmp}

-- the faults of things of one sort, by their names and what was found of each
abbrev pub told : Thing → List Name → List (Option FaultKind) → List CheckFault
told thing [] found = []
told thing (n ∷ names) [] = []
told thing (n ∷ names) (None ∷ found) = told thing names found
told thing (n ∷ names) (Some what ∷ found) = record { thing = thing; name = n; what = what } ∷ told thing names found

-- a thing of this name was found so
abbrev pub IsFoundAmong : List Name → List (Option FaultKind) → Name → FaultKind → Type 0
IsFoundAmong names found n what = (k : ℕ) × (slice_get names k ≡ Some n) × (slice_get found k ≡ Some (Some what))

-- the faults told are just those found
abbrev pub ToldAreFound : Type 0
ToldAreFound = (thing : Thing) (names : List Name) (found : List (Option FaultKind)) (fault : CheckFault)
    → Contains (told thing names found) fault ↔ ((fault.thing ≡ thing) × IsFoundAmong names found fault.name fault.what)

-- all faults have this rank
abbrev pub AreOfRank : List CheckFault → ℕ → Type 0
AreOfRank faults r = (fault : CheckFault) → Contains faults fault → rank fault.thing fault.what ≡ r

-- told of names that ascend, and all of one rank, they are in order
abbrev pub ToldAscend : Type 0
ToldAscend = (thing : Thing) (names : List Name) (found : List (Option FaultKind)) (r : ℕ) → NamesAscend None names → AreOfRank (told thing names found) r → IsStrictlySortedBy fault_cmp (told thing names found)

-- faults in order, and behind them others in order whose ranks are above theirs, are in order
abbrev pub RanksAscend : Type 0
RanksAscend = (first more : List CheckFault) → IsStrictlySortedBy fault_cmp first → IsStrictlySortedBy fault_cmp more
    → ((a b : CheckFault) → Contains first a → Contains more b → rank a.thing a.what < rank b.thing b.what) → IsStrictlySortedBy fault_cmp (first ++ more)
