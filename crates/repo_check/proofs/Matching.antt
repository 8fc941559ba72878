-- Two lists whose elements belong together, place by place.
use Rattle.std.proofs.Common.{arith, ◌≡◌, ◌<◌, ◌≤◌, ◌+◌, ◌++◌, ◌∷◌, [], ℕ, zero, suc, List, length, take, get_or, slice_get, Some, refl, ap, subst}
use Rattle.std.proofs.lemmas.List.{take_all}
use Rattle.repo_check.specs.Rounds.{Match}

module _ {A B : Type 0} (R : A → B → Type 0) where
  match_take : (xs : List A) (i : ℕ) (d : A) (ys : List B) (y : B) → i < length xs → Match R (take i xs) ys → R (get_or xs i d) y → Match R (take (suc i) xs) (ys ++ y ∷ [])
  match_take [] i d ys y less m r = absurd (omega (arith, less))
  match_take (x ∷ xs) zero d [] y less m r = (r, tt)
  match_take (x ∷ xs) zero d (z ∷ ys) y less m r = absurd m
  match_take (x ∷ xs) (suc i) d [] y less m r = absurd m
  match_take (x ∷ xs) (suc i) d (z ∷ ys) y less m r = (m.0, match_take xs i d ys y (omega (arith, less)) m.1 r)

  -- one more of a list belongs to one more of the other
  pub match_next : (xs : List A) (i : ℕ) (d : A) (ys : List B) (y : B) → i < length xs → Match R (take i xs) ys → R (get_or xs i d) y → Match R (take (i + 1) xs) (ys ++ y ∷ [])
  match_next xs i d ys y less m r =
      let next : suc i ≡ i + 1 = omega arith in
      subst (λ j. Match R (take j xs) (ys ++ y ∷ [])) next (match_take xs i d ys y less m r)

  -- all of them
  pub match_all : (xs : List A) (i : ℕ) (ys : List B) → length xs ≤ i → Match R (take i xs) ys → Match R xs ys
  match_all xs i ys few m = subst (λ zs. Match R zs ys) (take_all i xs few) m

  pub match_length : (xs : List A) (ys : List B) → Match R xs ys → length xs ≡ length ys
  match_length [] [] m = refl
  match_length (x ∷ xs) (y ∷ ys) m = ap suc (match_length xs ys m.1)
  match_length [] (y ∷ ys) m = absurd m
  match_length (x ∷ xs) [] m = absurd m

  -- what belongs to an element of the first, at its place
  pub record Opposite (xs : List A) (ys : List B) (i : ℕ) (x : A) : Type 0 where
    pub other : B
    pub there : slice_get ys i ≡ Some other
    pub belongs : R x other

  pub opposite : (xs : List A) (ys : List B) (i : ℕ) (x : A) → Match R xs ys → slice_get xs i ≡ Some x → Opposite xs ys i x
  opposite [] ys i x m at = absurd (cc at)
  opposite (a ∷ xs) [] i x m at = absurd m
  opposite (a ∷ xs) (b ∷ ys) zero x m at = record { other = b; there = refl; belongs = subst (λ (z : A). R z b) (cc at) m.0 }
  opposite (a ∷ xs) (b ∷ ys) (suc i) x m at = (let rest = opposite xs ys i x m.1 at in record { other = rest.other; there = rest.there; belongs = rest.belongs })

  -- and to an element of the second
  pub record Facing (xs : List A) (ys : List B) (i : ℕ) (y : B) : Type 0 where
    pub other : A
    pub there : slice_get xs i ≡ Some other
    pub belongs : R other y

  pub facing : (xs : List A) (ys : List B) (i : ℕ) (y : B) → Match R xs ys → slice_get ys i ≡ Some y → Facing xs ys i y
  facing xs [] i y m at = absurd (cc at)
  facing [] (b ∷ ys) i y m at = absurd m
  facing (a ∷ xs) (b ∷ ys) zero y m at = record { other = a; there = refl; belongs = subst (λ (z : B). R a z) (cc at) m.0 }
  facing (a ∷ xs) (b ∷ ys) (suc i) y m at = (let rest = facing xs ys i y m.1 at in record { other = rest.other; there = rest.there; belongs = rest.belongs })
