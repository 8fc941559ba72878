-- What a look-up holds, and what it finds.
use Rattle.std.specs.Prelude.{◌≡◌, ◌-◌, ◌⊎◌, ◌↔◌, List, length, slice_get, Some, Contains}
use Rattle.std.specs.List.Sorted.{IsStrictlySortedBy}
use Rattle.std.specs.declared.cmp.Ordering.TheVariants.{Less}
use Rattle.repo_name.specs.Naming.{name_cmp}
use Rattle.repo_name.specs.declared.names.Name.{Name}
use Rattle.repo_name.specs.declared.kinds.BlobKind.{BlobKind}
use Rattle.repo_pack.specs.declared.places.Place.{Place}
use Rattle.repo_index.specs.IndexText.{IsFact, fact_of}
use Rattle.repo_index.specs.Order.{place_cmp, place_first, IsAtMost}
use Rattle.repo_index.specs.declared.facts.Fact.{Fact}

-- of the places that these facts give a pair of kind and name, this is the least
pub record IsLeast (facts : List Fact) (kind : BlobKind) (name : Name) (place : Place) : Type 0 where
  pub among : Contains facts (fact_of kind name place)
  pub least : (other : Place) → Contains facts (fact_of kind name other) → IsAtMost place other

-- of the places that these facts give a pair of kind and name, this is the least behind another
pub record IsNextPlace (facts : List Fact) (kind : BlobKind) (name : Name) (place next : Place) : Type 0 where
  pub among : Contains facts (fact_of kind name next)
  pub behind : place_cmp place next ≡ Less
  pub least : (other : Place) → Contains facts (fact_of kind name other) → place_cmp place other ≡ Less → IsAtMost next other

-- none of them is behind this one
abbrev pub IsLastPlace : List Fact → BlobKind → Name → Place → Type 0
IsLastPlace facts kind name place = (other : Place) → Contains facts (fact_of kind name other) → IsAtMost other place

-- new has the facts of old and these
abbrev pub Joins : List Fact → List Fact → List Fact → Type 0
Joins old more new = (fact : Fact) → Contains new fact ↔ (Contains old fact ⊎ Contains more fact)

-- the same facts
abbrev pub HasSame : List Fact → List Fact → Type 0
HasSame old new = (fact : Fact) → Contains new fact ↔ Contains old fact

-- now has the facts of base and those noted, none of which base has
pub record Grew (base noted now : List Fact) : Type 0 where
  pub all : Joins base noted now
  pub apart : (fact : Fact) → Contains noted fact → ¬ Contains base fact

-- the last of the names is this one
abbrev pub EndsWith : List Name → Name → Type 0
EndsWith names name = slice_get names (length names - 1) ≡ Some name

-- the packs of these facts, each once and ascending
pub record ArePacksOf (facts : List Fact) (packs : List Name) : Type 0 where
  pub each : (pack : Name) → Contains packs pack ↔ ((fact : Fact) × Contains facts fact × (fact.place.pack ≡ pack))
  pub ascend : IsStrictlySortedBy name_cmp packs

-- those of these facts that are of a pack, by offset, then by length, kind and name
pub record AreFactsOf (facts : List Fact) (pack : Name) (own : List Fact) : Type 0 where
  pub each : (fact : Fact) → Contains own fact ↔ (Contains facts fact × (fact.place.pack ≡ pack))
  pub ascend : IsStrictlySortedBy place_first own

-- facts as programs make them
abbrev pub AreFacts : List Fact → Type 0
AreFacts facts = (fact : Fact) → Contains facts fact → IsFact fact
