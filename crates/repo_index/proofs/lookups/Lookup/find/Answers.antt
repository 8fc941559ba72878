use Rattle.std.proofs.Common.{List, subst}
use Rattle.std.specs.Prelude.{Contains}
use Rattle.std.specs.declared.ops.Bound.TheVariants.{Included}
use Rattle.std.specs.BTreeSet.{IsKeyRangeOf}
use Rattle.repo_pack.specs.declared.places.Place.{Place}
use Rattle.repo_index.specs.IndexText.{fact_of}
use Rattle.repo_index.specs.Order.{name_first}
use Rattle.repo_index.specs.Lookups.{IsLeast}
use Rattle.repo_index.specs.declared.facts.Fact.{Fact}
use Rattle.repo_index.proofs.LookupLemmas.{pair_forward, least_is_first, none_is_none}
use Rattle.repo_index.proofs.lookups.Lookup.find.Goals as goal

pub range-requires : goal.range-requires
range-requires c =
    pair_forward c.args.kind c.args.name.now c.least_of_pair-least.result c.greatest_of_pair-greatest.result c.least_of_pair-least.ensures c.greatest_of_pair-greatest.ensures

pub returns-clause-found : goal.returns-clause-found
returns-clause-found c =
    let lo = c.least_of_pair-least.result in
    let hi = c.greatest_of_pair-greatest.result in
    let range = subst (λ (r : List Fact). IsKeyRangeOf name_first (Included lo) (Included hi) c.self.inside.by_name r) c.in_ok-key.ensures.steps (c.range.ensures.in_range tt) in
    let least = least_is_first c.self.inside.by_name c.args.kind c.args.name.now lo hi c.in_ok-key.key.now _ c.self.invariant
    c.least_of_pair-least.ensures c.greatest_of_pair-greatest.ensures range in
    rw (c.fact.ensures) (subst (λ (fs : List Fact). IsLeast fs c.args.kind c.args.name.now c.in_ok-key.key.now.place) c.self.view_is least)

pub returns-in_err-key-clause-none : goal.returns-in_err-key-clause-none
returns-in_err-key-clause-none c =
    let lo = c.least_of_pair-least.result in
    let hi = c.greatest_of_pair-greatest.result in
    let range = subst (λ (r : List Fact). IsKeyRangeOf name_first (Included lo) (Included hi) c.self.inside.by_name r) c.in_err-key.ensures.steps.0 (c.range.ensures.in_range tt) in
    let none = none_is_none c.self.inside.by_name c.args.kind c.args.name.now lo hi c.self.invariant
    c.least_of_pair-least.ensures c.greatest_of_pair-greatest.ensures range in
    rw c.from_residual.ensures (subst (λ (fs : List Fact). (place : Place) → Contains fs (fact_of c.args.kind c.args.name.now place) → ⊥) c.self.view_is none)
