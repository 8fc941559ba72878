use Rattle.std.proofs.Common.{rules, [], List, sym, subst}
use Rattle.std.specs.declared.ops.Bound.TheVariants.{Included, Excluded}
use Rattle.std.specs.BTreeSet.{IsKeyRangeOf}
use Rattle.std.specs.BTreeMap.Range.{IsLeBy}
use Rattle.repo_index.specs.IndexText.{IsPlace}
use Rattle.repo_index.specs.Order.{name_first}
use Rattle.repo_index.specs.inner.Bounds.{IsAfterPair}
use Rattle.repo_index.specs.Lookups.{IsNextPlace, IsLastPlace}
use Rattle.repo_index.specs.declared.facts.Fact.{Fact}
use Rattle.repo_index.proofs.LookupLemmas.{behind_forward, next_is_first, none_is_last}
use Rattle.repo_index.proofs.lookups.Lookup.find_next.Goals as goal

pub range-requires : goal.range-requires
range-requires c =
    let is : IsPlace c.args.fact.place = search rules in
    let hi = c.greatest_of_pair-greatest.result in
    subst (λ (f : Fact). IsLeBy name_first f hi) (sym c.of.ensures) (behind_forward c.args.fact hi is c.greatest_of_pair-greatest.ensures)

pub returns-clause-found : goal.returns-clause-found
returns-clause-found c =
    let fact = c.args.fact in
    let hi = c.greatest_of_pair-greatest.result in
    let range = subst (λ (r : List Fact). IsKeyRangeOf name_first (Excluded c.of.result) (Included hi) c.self.inside.by_name r) c.in_ok-key.ensures.steps (c.range.ensures.in_range tt) in
    let key = c.in_ok-key.key.now in
    let found : IsNextPlace c.self.inside.by_name.keys c.of.result.kind c.of.result.name c.of.result.place key.place =
    next_is_first c.self.inside.by_name c.of.result hi key _ c.self.invariant (subst (λ (f : Fact). IsAfterPair f.kind f.name hi) (sym c.of.ensures) c.greatest_of_pair-greatest.ensures) range in
    let next = subst (λ (f : Fact). IsNextPlace c.self.inside.by_name.keys f.kind f.name f.place key.place) c.of.ensures found in
    rw (c.fact.ensures) (subst (λ (fs : List Fact). IsNextPlace fs fact.kind fact.name fact.place c.in_ok-key.key.now.place) c.self.view_is next)

pub returns-in_err-key-clause-none : goal.returns-in_err-key-clause-none
returns-in_err-key-clause-none c =
    let fact = c.args.fact in
    let hi = c.greatest_of_pair-greatest.result in
    let range = subst (λ (r : List Fact). IsKeyRangeOf name_first (Excluded c.of.result) (Included hi) c.self.inside.by_name r) c.in_err-key.ensures.steps.0 (c.range.ensures.in_range tt) in
    let behind = subst (λ (f : Fact). IsKeyRangeOf name_first (Excluded f) (Included hi) c.self.inside.by_name []) c.of.ensures range in
    let last = none_is_last c.self.inside.by_name fact hi c.self.invariant c.greatest_of_pair-greatest.ensures behind in
    rw c.from_residual.ensures (subst (λ (fs : List Fact). IsLastPlace fs fact.kind fact.name fact.place) c.self.view_is last)
