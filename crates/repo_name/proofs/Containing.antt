-- What a list contains.
use Rattle.std.proofs.Common.{arith, ◌≡◌, ◌∷◌, [], ℕ, zero, suc, List, map, slice_get, Some, refl, sym, ap, subst, inl, inr, ◌⊎◌, Contains}
use Rattle.std.specs.List.{flat_map}
use Rattle.std.proofs.lemmas.Option.{slice_get_within, get_or_from_slice_get}
use Rattle.std.proofs.lemmas.List.Elements.{Contains-append_left, Contains-append_right, Contains-append_cases}

pub none_contained : {A : Type 0} (x : A) → Contains [] x → ⊥
none_contained x h = absurd (omega (arith, h.1))

pub first_contained : {A : Type 0} (x : A) (xs : List A) → Contains (x ∷ xs) x
first_contained x xs = (zero, omega arith, refl)

pub later_contained : {A : Type 0} (y : A) (xs : List A) (x : A) → Contains xs x → Contains (y ∷ xs) x
later_contained y xs x h = Contains-append_right (y ∷ []) xs x h

pub contained_or : {A : Type 0} (y : A) (xs : List A) (x : A) → Contains (y ∷ xs) x → (y ≡ x) ⊎ Contains xs x
contained_or y xs x (zero, within, is) = inl is
contained_or y xs x (suc k, within, is) = inr (k, omega (arith, within), is)

-- what a list has at an index it contains
pub contains_got : {A : Type 0} (xs : List A) (i : ℕ) (x : A) → slice_get xs i ≡ Some x → Contains xs x
contains_got xs i x h = (i, slice_get_within xs i x h, get_or_from_slice_get xs i x x h)

-- what a list contains stands at an index
pub stands_at : {A : Type 0} (xs : List A) (x : A) → Contains xs x → (k : ℕ) × (slice_get xs k ≡ Some x)
stands_at [] x h = absurd (none_contained x h)
stands_at (y ∷ xs) x h = elim (contained_or y xs x h) [
  | inl same ↦ (zero, ap Some same)
  | inr more ↦ let k = stands_at xs x more in (suc k.0, k.1)
]

-- what a list of images contains is the image of something
pub map_contains : {A B : Type 0} (f : A → B) (xs : List A) (y : B) → Contains (map f xs) y → (x : A) × Contains xs x × (f x ≡ y)
map_contains f [] y h = absurd (none_contained y h)
map_contains f (x ∷ xs) y h = elim (contained_or (f x) (map f xs) y h) [
  | inl same ↦ (x, first_contained x xs, same)
  | inr more ↦ let found = map_contains f xs y more in (found.0, later_contained x xs found.0 found.1, found.2)
]

-- and the image of what it contains is there
pub contains_map : {A B : Type 0} (f : A → B) (xs : List A) (x : A) → Contains xs x → Contains (map f xs) (f x)
contains_map f [] x h = absurd (none_contained x h)
contains_map f (y ∷ xs) x h = elim (contained_or y xs x h) [
  | inl same ↦ subst (λ z. Contains (f y ∷ map f xs) (f z)) same (first_contained (f y) (map f xs))
  | inr more ↦ later_contained (f y) (map f xs) (f x) (contains_map f xs x more)
]

-- what lists joined contain, one of them does
pub flat_contains : {A B : Type 0} (f : A → List B) (xs : List A) (y : B) → Contains (flat_map f xs) y → (x : A) × Contains xs x × Contains (f x) y
flat_contains f [] y h = absurd (none_contained y h)
flat_contains f (x ∷ xs) y h = elim (Contains-append_cases (f x) (flat_map f xs) y h) [
  | inl here ↦ (x, first_contained x xs, here)
  | inr more ↦ let found = flat_contains f xs y more in (found.0, later_contained x xs found.0 found.1, found.2)
]

-- and the other way
pub contains_flat : {A B : Type 0} (f : A → List B) (xs : List A) (x : A) (y : B) → Contains xs x → Contains (f x) y → Contains (flat_map f xs) y
contains_flat f [] x y h is = absurd (none_contained x h)
contains_flat f (z ∷ xs) x y h is = elim (contained_or z xs x h) [
  | inl same ↦ Contains-append_left (f z) (flat_map f xs) y (subst (λ w. Contains (f w) y) (sym same) is)
  | inr more ↦ Contains-append_right (f z) (flat_map f xs) y (contains_flat f xs x y more is)
]
