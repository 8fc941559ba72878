use Rattle.std.proofs.Common.{rules, ◌≡◌, ◌-◌, List, length, take, drop, sym, subst, ◌∙◌, refl}
use Rattle.std.specs.Ordering.{is_lt, is_le}
use Rattle.std.specs.List.Sorted.{IsStrictlySortedBy}
use Rattle.std.proofs.lemmas.List.{take_rest}
use Rattle.std.proofs.lemmas.List.Sorted.{IsPartitionPoint-from_clause}
use Rattle.repo_name.specs.Naming.{name_cmp}
use Rattle.repo_index.specs.Order.{place_first}
use Rattle.repo_index.specs.Lookups.{AreFactsOf}
use Rattle.repo_index.specs.declared.facts.Fact.{Fact}
use Rattle.repo_index.proofs.PackLemmas.{packs_parted, rest_sorted, run_is}
use Rattle.repo_index.proofs.placed.Placed.run_of.Goals as goal

pub returns : goal.returns
returns c =
    let pack = c.args.pack.now in
    let facts = c.as_slice-facts.result.now in
    let start = c.partition_point-start.result in
    let count = c.partition_point-count.result in
    let rest = take (length facts - start) (drop start facts) in
    let sorted : IsStrictlySortedBy place_first facts = subst (IsStrictlySortedBy place_first) (sym c.as_slice-facts.ensures.value) c.self.invariant.1 in
    let is : rest ≡ drop start facts = take_rest facts start in
    let point = IsPartitionPoint-from_clause (λ (f : Fact). is_lt (name_cmp f.place.pack pack)) facts start c.partition_point-start.ensures.partitioned
    (packs_parted is_lt pack facts refl refl sorted) (λ a r q k. search rules) in
    let end = IsPartitionPoint-from_clause (λ (f : Fact). is_le (name_cmp f.place.pack pack)) rest count c.partition_point-count.ensures.partitioned
    (packs_parted is_le pack rest refl refl (rest_sorted facts rest start is sorted)) (λ a r q k. search rules) in
    let run = run_is facts rest pack start count sorted is c.partition_point-start.ensures.bound c.partition_point-count.ensures.bound point end in
    subst (λ (fs : List Fact). AreFactsOf fs pack (take count rest)) (c.as_slice-facts.ensures.value ∙ c.self.view_is) run
