-- What is known of packs by their notes.
use Rattle.std.proofs.Common.{arith, ◌≡◌, ◌≤◌, ◌<◌, ◌⊎◌, ◌∷◌, [], ℕ, zero, suc, List, Option, Some, None, Err, length, slice_get, get_or, false, cond, refl, sym, ap, subst, inl, inr, ◌∙◌}
use Rattle.std.specs.Prelude.{option_and_then}
use Rattle.std.specs.List.Sorted.{IsBinarySearchResult, IsNonDecreasingBy, IsSearchInRange}
use Rattle.std.specs.Ordering.{is_eq, ordering_index}
use Rattle.std.specs.declared.cmp.Ordering.{Ordering}
use Rattle.std.specs.declared.cmp.Ordering.TheVariants.{Less, Equal, Greater}
use Rattle.std.proofs.lemmas.Cmp.{tied_itself}
use Rattle.repo_name.specs.Naming.{name_cmp, Before}
use Rattle.repo_name.specs.declared.names.Name.{Name}
use Rattle.repo_name.proofs.NameMaps.{same_name}
use Rattle.repo_index.specs.Order.{names_total}
use Rattle.repo_index.specs.declared.facts.Fact.{Fact}
use Rattle.repo_store.specs.Pages.{Has, NamesAscend}
use Rattle.repo_check.specs.Fitting.{facts_at}
use Rattle.repo_check.specs.Gathering.{well_noted}
use Rattle.repo_check.specs.declared.rounds.Note.{Note}
use Rattle.repo_session.proofs.Rolling.{beyond}
use Rattle.repo_check.proofs.Tellings.{has_at}

-- ---- a search by halves

at_most_two : (o : Ordering) → ordering_index o ≤ 2
at_most_two Less = omega arith
at_most_two Equal = omega arith
at_most_two Greater = omega arith

-- of a name before another no more is told than of that
rises_by : (a b pack : Name) → Before a b → (o : Ordering) → name_cmp b pack ≡ o → ordering_index (name_cmp a pack) ≤ ordering_index o
rises_by a b pack before Less is = let less = ap ordering_index (names_total.trans a b pack before is) in omega (arith, less)
rises_by a b pack before Equal is =
    let same : b ≡ pack = same_name b pack (ap is_eq is) in
    let less = ap ordering_index (subst (λ n. name_cmp a n ≡ Less) same before) in
    omega (arith, less)
rises_by a b pack before Greater is = at_most_two (name_cmp a pack)

has_or : (names : List Name) (k : ℕ) (d : Name) → k < length names → Has names (get_or names k d)
has_or [] k d less = absurd (omega (arith, less))
has_or (n ∷ names) zero d less = inl refl
has_or (n ∷ names) (suc k) d less = inr (has_or names k d (omega (arith, less)))

pub rises : (pack : Name) (after : Option Name) (names : List Name) → NamesAscend after names → IsNonDecreasingBy (λ y. ordering_index (name_cmp y pack)) names
rises pack after [] h i j d le less = absurd (omega (arith, less))
rises pack after (n ∷ names) h zero zero d le less = omega arith
rises pack after (n ∷ names) h (suc i) zero d le less = absurd (omega (arith, le))
rises pack after (n ∷ names) h zero (suc j) d le less = rises_by n (get_or names j d) pack (beyond n names h.1 (get_or names j d) (has_or names j d (omega (arith, less)))) (name_cmp (get_or names j d) pack) refl
rises pack after (n ∷ names) h (suc i) (suc j) d le less = rises pack (Some n) names h.1 i j d (omega (arith, le)) (omega (arith, less))

-- ---- what is known at a place

pub known_there : (after : Option Name) (names : List Name) (notes : List (Note (List Fact))) → NamesAscend after names → (k : ℕ) (pack : Name) → slice_get names k ≡ Some pack → facts_at names notes pack ≡ option_and_then well_noted (slice_get notes k)
known_there after [] notes h k pack is = absurd (cc is)
known_there after (n ∷ names) [] h k pack is = refl
known_there after (n ∷ names) (note ∷ notes) h zero pack is =
    let same : n ≡ pack = cc is in
    let tied : name_cmp n pack ≡ Equal = subst (λ m. name_cmp n m ≡ Equal) same (tied_itself names_total n) in
    ap (λ o. cond (is_eq o) (well_noted note) (facts_at names notes pack)) tied
known_there after (n ∷ names) (note ∷ notes) h (suc k) pack is =
    ap (λ o. cond (is_eq o) (well_noted note) (facts_at names notes pack)) (beyond n names h.1 pack (has_at names k pack is)) ∙ known_there (Some n) names notes h.1 k pack is

pub unknown : (names : List Name) (notes : List (Note (List Fact))) (pack : Name) → ((k : ℕ) (d : Name) → k < length names → is_eq (name_cmp (get_or names k d) pack) ≡ false) → facts_at names notes pack ≡ None
unknown [] notes pack h = refl
unknown (n ∷ names) [] pack h = refl
unknown (n ∷ names) (note ∷ notes) pack h =
    ap (λ b. cond b (well_noted note) (facts_at names notes pack)) (h 0 n (omega arith)) ∙ unknown names notes pack (λ k d less. h (suc k) d (omega (arith, less)))

pub found_none : (names : List Name) (notes : List (Note (List Fact))) (pack : Name) (i : ℕ) → IsSearchInRange (Err i) (length names) → NamesAscend None names → IsBinarySearchResult (λ y. name_cmp y pack) names (Err i) → facts_at names notes pack ≡ None
found_none names notes pack i within h parted =
    unknown names notes pack (λ k d less. by k d less (nat_split k i))
  where
    nat_split : (k i : ℕ) → (k < i) ⊎ (i ≤ k)
    nat_split k zero = inr (omega arith)
    nat_split zero (suc i) = inl (omega arith)
    nat_split (suc k) (suc i) = elim (nat_split k i) [ inl less ↦ inl (omega (arith, less)) | inr more ↦ inr (omega (arith, more)) ]

    by : (k : ℕ) (d : Name) → k < length names → (k < i) ⊎ (i ≤ k) → is_eq (name_cmp (get_or names k d) pack) ≡ false
    by k d less (inl below) = ap is_eq ((parted (rises pack None names h)).0 k d (omega arith) below)
    by k d less (inr above) = ap is_eq ((parted (rises pack None names h)).1 k d above less)

at_or : {X : Type 0} (names : List X) (k : ℕ) (d : X) → k < length names → slice_get names k ≡ Some (get_or names k d)
at_or [] k d less = absurd (omega (arith, less))
at_or (n ∷ names) zero d less = refl
at_or (n ∷ names) (suc k) d less = at_or names k d (omega (arith, less))

pub found_at : (names : List Name) (notes : List (Note (List Fact))) (pack : Name) (k : ℕ) → k < length names → NamesAscend None names → ((d : Name) → name_cmp (get_or names k d) pack ≡ Equal)
    → facts_at names notes pack ≡ option_and_then well_noted (slice_get notes k)
found_at names notes pack k within h equal =
    let none : Name = record { 0 = [] } in
    let same : get_or names k none ≡ pack = same_name (get_or names k none) pack (ap is_eq (equal none)) in
    known_there None names notes h k pack (at_or names k none within ∙ ap Some same)

past : {X : Type 0} (xs : List X) (k : ℕ) → length xs ≤ k → slice_get xs k ≡ None
past [] k beyond_all = refl
past (x ∷ xs) zero beyond_all = absurd (omega (arith, beyond_all))
past (x ∷ xs) (suc k) beyond_all = past xs k (omega (arith, beyond_all))

module _ (names listed : List Name) (notes noted : List (Note (List Fact))) (pack : Name) (k : ℕ) (same_names : listed ≡ names) (same_notes : noted ≡ notes) (within : k < length listed)
    (equal : (d : Name) → name_cmp (get_or listed k d) pack ≡ Equal) (ascend : NamesAscend None names) where
  found_here : facts_at names notes pack ≡ option_and_then well_noted (slice_get noted k)
  found_here = ap (λ ns. facts_at ns notes pack) (sym same_names) ∙ ap (λ (xs : List (Note (List Fact))). facts_at listed xs pack) (sym same_notes) ∙ found_at listed noted pack k within (subst (λ ns. NamesAscend None ns) (sym same_names) ascend) equal

  pub none_here : length noted ≤ k → facts_at names notes pack ≡ None
  none_here few = found_here ∙ ap (λ (o : Option (Note (List Fact))). option_and_then well_noted o) (past noted k few)

  pub noted_here : (note : Note (List Fact)) → k < length noted → ((d : Note (List Fact)) → note ≡ get_or noted k d) → facts_at names notes pack ≡ well_noted note
  noted_here note less is = found_here ∙ ap (λ (o : Option (Note (List Fact))). option_and_then well_noted o) (at_or noted k note less ∙ ap Some (sym (is note)))
