-- The listing of packs in new indexes.
use Rattle.std.proofs.Common.{arith, ◌≡◌, ◌≢◌, ◌≤◌, ◌<◌, ◌+◌, get_or, ◌++◌, ◌∷◌, [], ℕ, zero, suc, List, length, take, drop, take-add, ap, sym, subst, ◌∙◌, Contains}
use Rattle.std.proofs.lemmas.List.{take-append-drop, take-take, take-append-le, take_all, length-take, length-append, get_or-take}
use Rattle.std.proofs.lemmas.List.Elements.{Contains-append_left, Contains-append_right}
use Rattle.std.specs.Ordering.{is_lt}
use Rattle.repo_name.specs.Limits.{facts_limit}
use Rattle.repo_name.specs.Naming.{name_cmp}
use Rattle.repo_index.specs.IndexText.{facts_in}
use Rattle.repo_index.specs.IndexWriting.{AreLawful, AreFew}
use Rattle.repo_index.specs.declared.facts.PackFacts.{PackFacts}
use Rattle.repo_writing.proofs.Writings.{all_of}
use Rattle.repo_writing.specs.Writing.{FewWait}
use Rattle.repo_prune.specs.inner.Indexing.{AreSmall}
use Rattle.repo_prune.specs.Pruning.{AscendByName, AreCutInTime}
use Rattle.repo_prune.specs.Relisting.{IsListable, AreListable}

module _ {X : Type 0} where
  pub in_first : (xs : List X) (n : ℕ) (x : X) → Contains (take n xs) x → Contains xs x
  in_first xs n x h = subst (λ l. Contains l x) (take-append-drop n xs) (Contains-append_left (take n xs) (drop n xs) x h)

  pub in_rest : (xs : List X) (n : ℕ) (x : X) → Contains (drop n xs) x → Contains xs x
  in_rest xs n x h = subst (λ l. Contains l x) (take-append-drop n xs) (Contains-append_right (take n xs) (drop n xs) x h)

  pub take_behind : (xs : List X) (i n j : ℕ) → j ≡ i + n → take j xs ≡ take i xs ++ take n (drop i xs)
  take_behind xs i n j is = ap (λ k. take k xs) is ∙ take-add i n xs

-- a list with a first element isn't empty
no_cons : {X : Type 0} (x : X) (xs : List X) → x ∷ xs ≢ []
no_cons x xs none = omega (arith, ap length none)

-- where some are left, what is taken of them is no empty list
pub some_taken : (rest : List PackFacts) (count : ℕ) → (rest ≢ [] → 1 ≤ count) → 1 ≤ length rest → take count rest ≢ []
some_taken [] count some long = absurd (omega (arith, long))
some_taken (p ∷ rest) zero some long = let one = some (λ none. no_cons p rest none) in absurd (omega (arith, one))
some_taken (p ∷ rest) (suc count) some long = no_cons p (take count rest)

-- the packs that go into one index may be listed
pub some_listable : (packs waiting : List PackFacts) → ((p : PackFacts) → Contains waiting p → Contains packs p) → AreListable packs → AreListable waiting
some_listable packs waiting among listable p h = listable p (among p h)

pub listable_small : (packs : List PackFacts) → AreListable packs → AreSmall packs
listable_small packs listable p h = (listable p h).few

pub listable_lawful : (packs : List PackFacts) → AreListable packs → AreLawful packs
listable_lawful packs listable = all_of _ packs (λ p h. all_of _ p.facts (λ f among. (listable p h).within f among))

has_some : (p : PackFacts) → IsListable p → p.facts ≢ []
has_some p h none =
    let n : length p.facts ≡ 0 = ap length none in
    let some = h.some in
    absurd (omega (arith, n, some))

pub listable_few : (packs : List PackFacts) → AreListable packs → FewWait packs → AreFew packs
listable_few packs listable few = record { few = few; each = all_of (λ p. p.facts ≢ []) packs (λ p h. has_some p (listable p h)) }

-- the first packs of some in the order of their names
pub first_ascend : (packs : List PackFacts) (n : ℕ) → AscendByName packs → AscendByName (take n packs)
first_ascend packs n ascend = λ i d low within.
    let first : List PackFacts = take n packs in
    let size = length-take n packs in
    ap (λ (p : PackFacts). is_lt (name_cmp p.pack (get_or first i d).pack)) (get_or-take n packs (i + 1) d (omega (arith, within, size)))
    ∙ ap (λ (p : PackFacts). is_lt (name_cmp (get_or packs (i + 1) d).pack p.pack)) (get_or-take n packs i d (omega (arith, within, size)))
    ∙ ascend i d low (omega (arith, within, size))

-- as many packs as it takes to have 20,000 blobs, and no more
pub cut_in_time : (rest : List PackFacts) (count : ℕ) → ((fewer : ℕ) → fewer < count → length (facts_in (take fewer rest)) < facts_limit) → AreCutInTime (take count rest)
cut_in_time rest count before = λ front last is.
    let n : ℕ = length front in
    let long : length (take count rest) ≡ length (front ++ last ∷ []) = ap length is in
    let more = length-append front (last ∷ []) in
    let size = length-take count rest in
    let less : n < count = omega (arith, long, more, size) in
    let same : take n rest ≡ front =
    sym (take-take n count rest (omega (arith, less))) ∙ ap (take n) is ∙ take-append-le n front (last ∷ []) (omega arith) ∙ take_all n front (omega arith) in
    subst (λ (ps : List PackFacts). length (facts_in ps) < facts_limit) same (before n less)
