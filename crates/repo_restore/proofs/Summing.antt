-- The lengths of a file's blobs.
use Rattle.std.proofs.Common.{arith, ◌≡◌, ◌<◌, ◌+◌, ◌++◌, ◌∷◌, [], ℕ, zero, suc, false, List, length, take, drop, slice_get, get_or, Some, refl, sym, ap, subst, append_assoc, take-append-drop, ◌∙◌}
use Rattle.std.specs.Ordering.{ordering_then, ordering_reverse, is_gt}
use Rattle.std.specs.declared.cmp.Ordering.{Ordering}
use Rattle.std.specs.declared.cmp.Ordering.TheVariants.{Less, Equal, Greater}
use Rattle.std.proofs.lemmas.Cmp.{tied_itself}
use Rattle.repo_name.specs.Naming.{name_cmp}
use Rattle.repo_index.specs.IndexText.{fact_of}
use Rattle.repo_index.specs.Order.{place_cmp, kind_cmp, place_first, names_total, kinds_total, places_total}
use Rattle.repo_index.proofs.OrderLemmas.{between, place_first_exact}
use Rattle.std.proofs.lemmas.Option.{slice_get_within, get_or_from_slice_get}
use Rattle.std.proofs.Math.Seq.{take-suc}
use Rattle.repo_name.specs.declared.kinds.BlobKind.{BlobKind}
use Rattle.repo_name.specs.declared.names.Name.{Name}
use Rattle.repo_pack.specs.declared.places.Place.{Place}
use Rattle.repo_index.specs.declared.facts.Fact.{Fact}
use Rattle.repo_index.specs.Lookups.{IsLeast}
use Rattle.repo_session.specs.Catalogs.{IsBlobNowhere}
use Rattle.repo_restore.specs.Restoring.{Sums}
use Rattle.repo_restore.specs.Walks.{LacksFirst}

-- one more behind some
pub one_more : {A : Type 0} (xs : List A) (i : ℕ) (x : A) → slice_get xs i ≡ Some x → take (i + 1) xs ≡ take i xs ++ x ∷ []
one_more xs i x q =
    let s : i + 1 ≡ suc i = omega arith in
    ap (λ j. take j xs) s ∙ take-suc xs i x (slice_get_within xs i x q) ∙ ap (λ y. take i xs ++ y ∷ []) (get_or_from_slice_get xs i x x q)

-- a list around one of its items
pub around : (xs : List Name) (i : ℕ) (x : Name) → slice_get xs i ≡ Some x → xs ≡ take i xs ++ x ∷ drop (i + 1) xs
around xs i x p = sym (take-append-drop (i + 1) xs) ∙ ap (λ t. t ++ drop (i + 1) xs) (one_more xs i x p) ∙ append_assoc (take i xs) (x ∷ []) (drop (i + 1) xs)

pub sums_push : (facts : List Fact) (names : List Name) (total : ℕ) (name : Name) (place : Place) → Sums facts names total → IsLeast facts BlobKind.Content name place → Sums facts (names ++ name ∷ []) (total + place.length)
sums_push facts [] total name place h least = (place, 0, least, refl, (let e : total ≡ 0 = h in omega arith))
sums_push facts (n ∷ ns) total name place h least =
    (h.0, h.1 + place.length, h.2, sums_push facts ns h.1 name place h.3 least, (let e : total ≡ h.0.length + h.1 = h.4 in omega arith))

-- what is summed has places
pub summed_place : (facts : List Fact) (names : List Name) (total : ℕ) (i : ℕ) (name : Name) → Sums facts names total → slice_get names i ≡ Some name → ¬ IsBlobNowhere facts BlobKind.Content name
summed_place facts [] total i name h p none = absurd (cc)
summed_place facts (n ∷ ns) total zero name h p none = let e : n ≡ name = cc in none h.0 (let P : Name → Type 0 = λ m. IsLeast facts BlobKind.Content m h.0 in (subst P e h.2).among)
summed_place facts (n ∷ ns) total (suc i) name h p none = summed_place facts ns h.1 i name h.3 p none

-- and so is what is summed behind some
pub dropped_place : (facts : List Fact) (names : List Name) (total : ℕ) (i : ℕ) (name : Name) → Sums facts (drop i names) total → slice_get names i ≡ Some name → ¬ IsBlobNowhere facts BlobKind.Content name
dropped_place facts [] total i name h p none = absurd (cc)
dropped_place facts (n ∷ ns) total zero name h p none = summed_place facts (n ∷ ns) total 0 name h p none
dropped_place facts (n ∷ ns) total (suc i) name h p none = dropped_place facts ns total i name h p none

-- the first that has no place
pub lacks_first : (facts : List Fact) (names : List Name) (total i : ℕ) (name : Name) → Sums facts (take i names) total → slice_get names i ≡ Some name → IsBlobNowhere facts BlobKind.Content name → LacksFirst facts names name
lacks_first facts names total i name h p none = record { earlier = take i names; later = drop (i + 1) names; total = total; all = around names i name p; sums = h; none = none }

-- one more of a file's blobs
pub sums_next : (facts : List Fact) (names : List Name) (total i : ℕ) (d : Name) (place : Place) → i < length names → Sums facts (take i names) total → IsLeast facts BlobKind.Content (get_or names i d) place
    → Sums facts (take (i + 1) names) (total + place.length)
sums_next facts names total i d place w h least =
    let s : i + 1 ≡ suc i = omega arith in
    subst (λ ns. Sums facts ns (total + place.length)) (sym (ap (λ j. take j names) s ∙ take-suc names i d w)) (sums_push facts (take i names) total (get_or names i d) place h least)

or_equal : (o : Ordering) → is_gt o ≡ false → is_gt (ordering_then o Equal) ≡ false
or_equal Less h = refl
or_equal Equal h = refl
or_equal Greater h = h

-- least places are one
pub least_one : (facts : List Fact) (kind : BlobKind) (name : Name) (p q : Place) → IsLeast facts kind name p → IsLeast facts kind name q → p ≡ q
least_one facts kind name p q a b =
    let back : place_cmp q p ≡ ordering_reverse (place_cmp p q) = places_total.antisymm q p in
    let same : place_cmp p q ≡ Equal = (between (place_cmp p q) (place_cmp q p) Equal Equal back (or_equal (place_cmp p q) (a.least q b.among)) (or_equal (place_cmp q p) (b.least p a.among))).0 in
    let whole : place_first (fact_of kind name p) (fact_of kind name q) ≡ Equal = ap (λ o. ordering_then o (ordering_then (kind_cmp kind kind) (name_cmp name name))) same ∙ ap (λ o. ordering_then o (name_cmp name name)) (tied_itself kinds_total kind) ∙ tied_itself names_total name in
    ap (λ (f : Fact). f.place) (place_first_exact (fact_of kind name p) (fact_of kind name q) whole)

-- where the next blob was given out, so much less is left
pub sums_drop : (facts : List Fact) (names : List Name) (left i : ℕ) (name : Name) (place : Place) → slice_get names i ≡ Some name → IsLeast facts BlobKind.Content name place → Sums facts (drop i names) left
    → (rest : ℕ) × Sums facts (drop (i + 1) names) rest × (left ≡ place.length + rest)
sums_drop facts [] left i name place p least h = absurd (cc)
sums_drop facts (n ∷ ns) left zero name place p least h =
    let e : n ≡ name = cc in
    let same = least_one facts BlobKind.Content name h.0 place (let P : Name → Type 0 = λ m. IsLeast facts BlobKind.Content m h.0 in subst P e h.2) least in
    (h.1, h.3, h.4 ∙ ap (λ (x : Place). x.length + h.1) same)
sums_drop facts (n ∷ ns) left (suc i) name place p least h =
    let s : suc i + 1 ≡ suc (i + 1) = omega arith in
    let r = sums_drop facts ns left i name place p least h in
    (r.0, subst (λ j. Sums facts (drop j (n ∷ ns)) r.0) (sym s) r.1, r.2)
