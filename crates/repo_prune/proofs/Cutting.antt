-- How packs are listed in new indexes.
use Rattle.std.proofs.Common.{arith, zero, suc, ◌≡◌, ◌≤◌, ◌<◌, ◌+◌, ◌++◌, ◌∷◌, [], ℕ, List, length, take, get_or, ap, ◌∙◌, append-nil}
use Rattle.std.proofs.lemmas.List.{length-append}
use Rattle.std.proofs.lemmas.List.Concat.{flat_map-append}
use Rattle.std.specs.Cmp.{IsStrictWeakOrder}
use Rattle.std.proofs.lemmas.List.MinMax.{ranks_by}
use Rattle.repo_index.specs.IndexText.{facts_in}
use Rattle.repo_index.specs.declared.facts.Fact.{Fact}
use Rattle.repo_index.specs.declared.facts.PackFacts.{PackFacts}
use Rattle.repo_reach.proofs.Using.{one_more}
use Rattle.repo_prune.proofs.Planning.{at_contained}
use Rattle.repo_index.specs.Order.{names_total}
use Rattle.repo_prune.specs.inner.Indexing.{AreSmall, is_before}

-- the facts of one pack more
facts_more : (packs : List PackFacts) (i : ℕ) (d : PackFacts) → i < length packs → length (facts_in (take (i + 1) packs)) ≡ length (facts_in (take i packs)) + length (get_or packs i d).facts
facts_more packs i d within =
    let p = get_or packs i d in
    ap (λ (ps : List PackFacts). length (facts_in ps)) (one_more packs i d within) ∙ ap length (flat_map-append (λ (q : PackFacts). q.facts) (take i packs) (p ∷ []))
    ∙ length-append (facts_in (take i packs)) (p.facts ++ []) ∙ ap (λ (fs : List Fact). length (facts_in (take i packs)) + length fs) (append-nil p.facts)

-- where all but the last pack have fewer than 20,000 blobs, all have at most 24,095
pub few_first : (packs : List PackFacts) (i : ℕ) → i ≤ length packs → ((fewer : ℕ) → fewer < i → length (facts_in (take fewer packs)) < 20_000) → AreSmall packs → length (facts_in (take i packs)) ≤ 24_095
few_first packs zero within before small = omega arith
few_first [] (suc i) within before small = absurd (omega (arith, within))
few_first (p ∷ ps) (suc i) within before small =
    let packs : List PackFacts = p ∷ ps in
    let less : i < length packs = omega (arith, within) in
    let next : suc i ≡ i + 1 = omega arith in
    let more : length (facts_in (take (suc i) packs)) ≡ length (facts_in (take i packs)) + length (get_or packs i p).facts = ap (λ j. length (facts_in (take j packs))) next ∙ facts_more packs i p less in
    let open_before = before i (omega arith) in
    let one = small (get_or packs i p) (at_contained packs i p less) in
    omega (arith, more, open_before, one)

-- the order of packs is one
pub packs_strict : IsStrictWeakOrder is_before
packs_strict = ranks_by names_total (λ (p : PackFacts). p.pack)
