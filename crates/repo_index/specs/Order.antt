-- The orders of places and of facts.
use Rattle.std.specs.Ordering.{nat_cmp, ordering_then}
use Rattle.std.specs.Cmp.{IsTotalOrder, nat_cmp_total, on_total, then_total}
use Rattle.std.specs.Cmp.Lexicographic.{nat_list_cmp_total}
use Rattle.std.specs.declared.cmp.Ordering.{Ordering}
use Rattle.std.specs.BTreeMap.Range.{IsLeBy}
use Rattle.repo_name.specs.Naming.{name_cmp}
use Rattle.repo_name.specs.declared.kinds.BlobKind.{BlobKind}
use Rattle.repo_pack.specs.PackLayout.{kind_number}
use Rattle.repo_pack.specs.declared.places.Place.{Place}
use Rattle.repo_index.specs.declared.facts.Fact.{Fact}

-- places go by their pack, then by offset and by length
abbrev pub place_cmp : Place → Place → Ordering
place_cmp a b = ordering_then (name_cmp a.pack b.pack) (ordering_then (nat_cmp a.offset b.offset) (nat_cmp a.length b.length))

-- kinds go by their numbers in a pack
abbrev pub kind_cmp : BlobKind → BlobKind → Ordering
kind_cmp a b = nat_cmp (kind_number a) (kind_number b)

-- facts by their place, then by kind and by name
abbrev pub place_first : Fact → Fact → Ordering
place_first a b = ordering_then (place_cmp a.place b.place) (ordering_then (kind_cmp a.kind b.kind) (name_cmp a.name b.name))

-- facts by their kind and name, then by their place
abbrev pub name_first : Fact → Fact → Ordering
name_first a b = ordering_then (kind_cmp a.kind b.kind) (ordering_then (name_cmp a.name b.name) (place_cmp a.place b.place))

-- a place stands at or before another
abbrev pub IsAtMost : Place → Place → Type 0
IsAtMost a b = IsLeBy place_cmp a b

-- ---- the laws of these orders

pub names_total : IsTotalOrder name_cmp
names_total = on_total (λ n. n.0) nat_list_cmp_total

pub kinds_total : IsTotalOrder kind_cmp
kinds_total = on_total kind_number nat_cmp_total

pub places_total : IsTotalOrder place_cmp
places_total = then_total (on_total (λ (p : Place). p.pack) names_total) (then_total (on_total (λ (p : Place). p.offset) nat_cmp_total) (on_total (λ (p : Place). p.length) nat_cmp_total))

pub place_first_total : IsTotalOrder place_first
place_first_total = then_total (on_total (λ (f : Fact). f.place) places_total) (then_total (on_total (λ (f : Fact). f.kind) kinds_total) (on_total (λ (f : Fact). f.name) names_total))

pub name_first_total : IsTotalOrder name_first
name_first_total = then_total (on_total (λ (f : Fact). f.kind) kinds_total) (then_total (on_total (λ (f : Fact). f.name) names_total) (on_total (λ (f : Fact). f.place) places_total))
