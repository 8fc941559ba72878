-- What the notes of a round give together, one after another.
use Rattle.std.proofs.Common.{◌≡◌, ◌∷◌, [], ◌<◌, ◌≤◌, ◌+◌, ℕ, List, drop, get_or, length, inl, inr, ◌⊎◌, ◌↔◌, sym, subst, Contains}
use Rattle.std.specs.List.{flat_map}
use Rattle.std.proofs.lemmas.List.Elements.{Contains-append_left, Contains-append_right, Contains-append_cases}
use Rattle.std.specs.Prelude.{Result, Ok, Err, OnOk}
use Rattle.std.proofs.lemmas.Option.{slice_get-get_or}
use Rattle.repo_name.proofs.Containing.{contained_or, contains_flat, contains_got, first_contained, none_contained}
use Rattle.repo_reach.specs.declared.roots.Root.{Root}
use Rattle.repo_check.specs.Gathering.{root_noted}
use Rattle.repo_check.specs.Visiting.{AddsVisit, BeginsAt, visit_of}
use Rattle.repo_check.specs.inner.Gaining.{AddsRoots}
use Rattle.repo_check.specs.declared.rounds.Note.{Note}
use Rattle.repo_check.specs.declared.visiting.Visit.{Visit}
use Rattle.repo_check.proofs.Measuring.{left_at, left_none}

-- so far these were gathered, and what is left gives the rest
abbrev pub Gathers : {A B : Type 0} (f : A → List B) (Has : B → Type 0) (left whole : List A) → Type 0
Gathers {A} {B} f Has left whole = (y : B) → (Has y ⊎ Contains (flat_map f left) y) ↔ Contains (flat_map f whole) y

-- what one gives was gathered
pub gathers_next : {A B : Type 0} (f : A → List B) (whole : List A) (i : ℕ) (d : A) → i < length whole → (Has More : B → Type 0) → ((y : B) → More y ↔ (Has y ⊎ Contains (f (get_or whole i d)) y))
    → Gathers f Has (drop i whole) whole → Gathers f More (drop (i + 1) whole) whole
gathers_next f whole i d less Has More more before y =
    let x = get_or whole i d in
    let rest = drop (i + 1) whole in
    let split = left_at whole i d less in (
      λ h. (before y).0 (elim h [
        | inl is ↦ elim ((more y).0 is) [ inl there ↦ inl there | inr here ↦ inr (subst (λ xs. Contains (flat_map f xs) y) (sym split) (Contains-append_left (f x) (flat_map f rest) y here)) ]
        | inr left ↦ inr (subst (λ xs. Contains (flat_map f xs) y) (sym split) (Contains-append_right (f x) (flat_map f rest) y left))
      ]),
      λ h. elim ((before y).1 h) [
        | inl there ↦ inl ((more y).1 (inl there))
        | inr left ↦ elim (Contains-append_cases (f x) (flat_map f rest) y (subst (λ xs. Contains (flat_map f xs) y) split left)) [ inl here ↦ inl ((more y).1 (inr here)) | inr later ↦ inr later ]
      ],
    )

-- where nothing is left all was gathered
pub gathers_all : {A B : Type 0} (f : A → List B) (whole : List A) (i : ℕ) → length whole ≤ i → (Has : B → Type 0) → Gathers f Has (drop i whole) whole → (y : B) → Has y ↔ Contains (flat_map f whole) y
gathers_all f whole i few Has h y = (
  λ is. (h y).0 (inl is),
  λ c. elim ((h y).1 c) [ inl is ↦ is | inr left ↦ absurd (none_contained y (subst (λ xs. Contains (flat_map f xs) y) (left_none whole i few) left)) ],
)

-- ---- roots

-- what a note's root adds
pub root_added : {T E : Type 0} (r : Result T E) (old new : List Visit) (root : Root) → OnOk r (AddsVisit old (visit_of root) new) → OnOk r (AddsRoots old (root ∷ []) new)
root_added (Ok x) old new root h = record {
  all = λ other c. subst (λ (z : Root). Contains new (visit_of z)) (only other c) h.1;
  only = λ v c. elim (Contains-append_cases old h.0.0 v (subst (λ vs. Contains vs v) h.0.1 c)) [ inl there ↦ inl there | inr came ↦ inr (root, first_contained root [], sym (h.0.2 v came)) ];
  stay = λ v c. subst (λ vs. Contains vs v) (sym h.0.1) (Contains-append_left old h.0.0 v c);
}
  where
    only : (other : Root) → Contains (root ∷ []) other → root ≡ other
    only other c = elim (contained_or root [] other c) [ inl same ↦ same | inr none ↦ absurd (none_contained other none) ]
root_added (Err e) old new root h = tt

-- the roots of the notes that are gone through have their visits, and no other visits came
pub record HasBegun (notes : List (Note Root)) (left : List (Note Root)) (visits : List Visit) : Type 0 where
  pub all : (root : Root) → Contains (flat_map root_noted notes) root → Contains visits (visit_of root) ⊎ Contains (flat_map root_noted left) root
  pub only : (v : Visit) → Contains visits v → (root : Root) × Contains (flat_map root_noted notes) root × (v ≡ visit_of root)

pub begun_next : (notes : List (Note Root)) (i : ℕ) (d : Note Root) → i < length notes → (old new : List Visit) → AddsRoots old (root_noted (get_or notes i d)) new → HasBegun notes (drop i notes) old → HasBegun notes (drop (i + 1) notes) new
begun_next notes i d less old new adds before =
    let note = get_or notes i d in
    let rest = drop (i + 1) notes in
    let split = left_at notes i d less in
    let here : Contains notes note = contains_got notes i note (slice_get-get_or notes i d less) in
    record {
      all = λ root c. elim (before.all root c) [
        | inl there ↦ inl (adds.stay (visit_of root) there)
        | inr left ↦ elim (Contains-append_cases (root_noted note) (flat_map root_noted rest) root (subst (λ ns. Contains (flat_map root_noted ns) root) split left)) [ inl mine ↦ inl (adds.all root mine) | inr later ↦ inr later ]
      ];
      only = λ v c. elim (adds.only v c) [ inl there ↦ before.only v there | inr came ↦ (came.0, contains_flat root_noted notes note came.0 here came.1, came.2) ];
    }

pub begun_all : (notes : List (Note Root)) (i : ℕ) → length notes ≤ i → (visits : List Visit) → HasBegun notes (drop i notes) visits → BeginsAt (flat_map root_noted notes) visits
begun_all notes i few visits h = record {
  all = λ root c. elim (h.all root c) [ inl there ↦ there | inr left ↦ absurd (none_contained root (subst (λ ns. Contains (flat_map root_noted ns) root) (left_none notes i few) left)) ];
  only = h.only;
}
