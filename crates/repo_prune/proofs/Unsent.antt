-- Blobs that move, of which no pack was put yet.
use Rattle.std.proofs.Common.{arith, ◌≡◌, ◌≤◌, ◌+◌, ◌++◌, ◌∷◌, [], ℕ, zero, suc, List, Some, length, map, take, drop, slice_get, refl, sym, ap, subst, inl, inr, ◌∙◌, Contains, append_assoc}
use Rattle.std.proofs.lemmas.List.{take-append-drop}
use Rattle.std.proofs.lemmas.List.Elements.{Contains-append_right}
use Rattle.repo_name.proofs.Containing.{none_contained, first_contained, later_contained, contained_or, contains_map, map_contains}
use Rattle.repo_pack.specs.PackLayout.{Item}
use Rattle.repo_index.specs.IndexText.{fact_of}
use Rattle.repo_index.specs.declared.facts.Fact.{Fact}
use Rattle.repo_writing.specs.Blobs.{HasFact, HasItem, AreFactsOnce}
use Rattle.repo_prune.specs.Pruning.{Pair, pair_of_item, pair_of_fact}
use Rattle.repo_prune.proofs.Firsts.{some_first}
use Rattle.repo_prune.proofs.Repacking.{one_taken}

-- what stands among the first ones of some, stands among more of all
among_more : (all : List Fact) (n some more : ℕ) (fact : Fact) → n ≤ more → Contains (take n (take some all)) fact → Contains (take more all) fact
among_more all zero some more fact few h = absurd (none_contained fact h)
among_more [] (suc n) zero more fact few h = absurd (none_contained fact h)
among_more [] (suc n) (suc some) more fact few h = absurd (none_contained fact h)
among_more (f ∷ all) (suc n) zero more fact few h = absurd (none_contained fact h)
among_more (f ∷ all) (suc n) (suc some) zero fact few h = absurd (omega (arith, few))
among_more (f ∷ all) (suc n) (suc some) (suc more) fact few h = elim (contained_or f (take n (take some all)) fact h) [
  | inl same ↦ subst (λ g. Contains (g ∷ take more all) fact) (sym same) (first_contained fact (take more all))
  | inr later ↦ later_contained f (take more all) fact (among_more all n some more fact (omega (arith, few)) later)
]

-- the first of some blobs are of the first facts' pairs, where all are of the facts' pairs
first_pairs : (first rest : List Item) (facts : List Fact) → map pair_of_item (first ++ rest) ≡ map pair_of_fact facts → map pair_of_item first ≡ map pair_of_fact (take (length first) facts)
first_pairs [] rest facts h = refl
first_pairs (item ∷ first) rest [] h = absurd (cc)
first_pairs (item ∷ first) rest (fact ∷ facts) h =
    let one : pair_of_item item ≡ pair_of_fact fact = cc in
    let more : map pair_of_item (first ++ rest) ≡ map pair_of_fact facts = cc in
    let those = first_pairs first rest facts more in
    cc (one, those)

-- those that move, cut before one of them
cut_at : (kept moves : List Fact) (i : ℕ) (fact : Fact) → slice_get moves i ≡ Some fact → kept ++ moves ≡ ((kept ++ take i moves) ++ fact ∷ []) ++ drop (i + 1) moves
cut_at kept moves i fact at =
    ap (λ ms. kept ++ ms) (sym (take-append-drop (i + 1) moves) ∙ ap (λ ts. ts ++ drop (i + 1) moves) (one_taken moves i fact at))
    ∙ sym (append_assoc kept (take i moves ++ fact ∷ []) (drop (i + 1) moves)) ∙ ap (λ fs. fs ++ drop (i + 1) moves) (sym (append_assoc kept (take i moves) (fact ∷ [])))

-- none of those before it is of its kind and name
pub first_of_pair : (kept moves : List Fact) (i : ℕ) (fact : Fact) → AreFactsOnce (kept ++ moves) → slice_get moves i ≡ Some fact → ¬ HasFact (take i moves) fact.kind fact.name
first_of_pair kept moves i fact once at was =
    some_first (kept ++ take i moves) (fact ∷ []) (drop (i + 1) moves) (subst AreFactsOnce (cut_at kept moves i fact at) once) fact.kind fact.name (fact.place, first_contained fact [])
    (was.0, Contains-append_right kept (take i moves) (fact_of fact.kind fact.name was.0) was.1)

-- the blob of a fact isn't among blobs that were sent, where these are of facts before it
pub unsent : (kept moves : List Fact) (i added : ℕ) (fact : Fact) (sent rest : List Item) → AreFactsOnce (kept ++ moves) → slice_get moves i ≡ Some fact → length sent ≤ i → map pair_of_item (sent ++ rest) ≡ map pair_of_fact (take added moves)
    → ¬ HasItem sent fact.kind fact.name
unsent kept moves i added fact sent rest once at few same has =
    let front = first_pairs sent rest (take added moves) same in
    let pair = subst (λ ps. Contains ps (pair_of_item has.0)) front (contains_map pair_of_item sent has.0 has.1) in
    let found = map_contains pair_of_fact (take (length sent) (take added moves)) (pair_of_item has.0) pair in
    let kind = ap (λ (p : Pair). p.kind) found.2 ∙ has.2 in
    let name = ap (λ (p : Pair). p.name) found.2 ∙ has.3 in
    let is : found.0 ≡ fact_of fact.kind fact.name found.0.place = λ j. record { kind = kind j; name = name j; place = found.0.place } in
    let before : Contains (take i moves) (fact_of fact.kind fact.name found.0.place) = subst (Contains (take i moves)) is (among_more moves (length sent) added i found.0 few found.1) in
    first_of_pair kept moves i fact once at (found.0.place, before)
