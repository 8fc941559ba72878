-- The queue for room.
use Rattle.std.proofs.Common.{arith, ◌≡◌, ◌≢◌, ◌≤◌, ◌<◌, ◌⊎◌, ◌+◌, ◌++◌, ◌∷◌, [], ℕ, zero, suc, Bool, true, false, List, Some, length, slice_get, slice_set, if◌then◌else◌, eqb, ltb, refl, sym, subst, ap, inl, inr, ◌∙◌}
use Rattle.std.proofs.lemmas.Bool.Decides.{eqb_tells}
use Rattle.std.specs.List.{remove}
use Rattle.repo_many.specs.declared.large_frames.LargeFrame.{LargeFrame}
use Rattle.repo_many.specs.Rooms.{AreApart, AreBelow, NoneOf, QueuesAreFair, index_of, queued}

-- the frames without the first of a place
without : ℕ → List LargeFrame → List LargeFrame
without p [] = []
without p (f ∷ fs) = if eqb f.place p then fs else (f ∷ without p fs)

without_long : (p : ℕ) (fs : List LargeFrame) → length fs ≤ 1 + length (without p fs)
unfolding without
without_long p [] = omega arith
without_long p (f ∷ fs) = by_test (eqb f.place p) (without_long p fs) where
  by_test : (b : Bool) → length fs ≤ 1 + length (without p fs) → length (f ∷ fs) ≤ 1 + length (if b then fs else (f ∷ without p fs))
  by_test true h = omega arith
  by_test false h = omega (arith, h)

without_none : (q p : ℕ) (fs : List LargeFrame) → NoneOf q fs → NoneOf q (without p fs)
unfolding without
without_none q p [] h = tt
without_none q p (f ∷ fs) h = by_test (eqb f.place p) (without_none q p fs h.1) where
  by_test : (b : Bool) → NoneOf q (without p fs) → NoneOf q (if b then fs else (f ∷ without p fs))
  by_test true rest = h.1
  by_test false rest = (h.0, rest)

without_apart : (p : ℕ) (fs : List LargeFrame) → AreApart fs → AreApart (without p fs)
unfolding without
without_apart p [] h = tt
without_apart p (f ∷ fs) h = by_test (eqb f.place p) (without_apart p fs h.1) where
  by_test : (b : Bool) → AreApart (without p fs) → AreApart (if b then fs else (f ∷ without p fs))
  by_test true rest = h.1
  by_test false rest = (without_none f.place p fs h.0, rest)

none_below : (n : ℕ) (fs : List LargeFrame) → NoneOf n fs → AreBelow (suc n) fs → AreBelow n fs
none_below n [] none below = tt
none_below n (f ∷ fs) none below = (let far : f.place ≢ n = none.0 in let less : f.place < suc n = below.0 in omega (arith, far, less), none_below n fs none.1 below.1)

without_below : (n : ℕ) (fs : List LargeFrame) → AreApart fs → AreBelow (suc n) fs → AreBelow n (without n fs)
unfolding without
without_below n [] apart below = tt
without_below n (f ∷ fs) apart below = by_test (eqb_tells f.place n) (without_below n fs apart.1 below.1) where
  by_test : ((eqb f.place n ≡ true) × (f.place ≡ n)) ⊎ ((eqb f.place n ≡ false) × (f.place ≢ n)) → AreBelow n (without n fs) → AreBelow n (if eqb f.place n then fs else (f ∷ without n fs))
  by_test (inl is) rest = rw is.0 (none_below n fs (subst (λ (p : ℕ). NoneOf p fs) is.1 apart.0) below.1)
  by_test (inr is) rest = rw is.0 ((let far : f.place ≢ n = is.1 in let less : f.place < suc n = below.0 in omega (arith, far, less)), rest)

-- frames of so many places, no two of one place, are no more than the places
few : (n : ℕ) (fs : List LargeFrame) → AreApart fs → AreBelow n fs → length fs ≤ n
few zero [] apart below = omega arith
few zero (f ∷ fs) apart below = absurd (let h : f.place < 0 = below.0 in omega (arith, h))
few (suc n) fs apart below =
    let h = few n (without n fs) (without_apart n fs apart) (without_below n fs apart below) in
    let l = without_long n fs in
    omega (arith, h, l)

pub queues_are_fair : QueuesAreFair
queues_are_fair n fs apart below place there = let h = few n fs apart below in omega (arith, h, there)

-- ---- who comes, and who leaves

none_from : (fs : List LargeFrame) (p : ℕ) → length fs ≤ index_of fs p → NoneOf p fs
none_from [] p far = tt
none_from (f ∷ fs) p far = by_test (eqb_tells f.place p) (none_from fs p) where
  by_test : ((eqb f.place p ≡ true) × (f.place ≡ p)) ⊎ ((eqb f.place p ≡ false) × (f.place ≢ p)) → (length fs ≤ index_of fs p → NoneOf p fs) → NoneOf p (f ∷ fs)
  by_test (inl is) rest = absurd (let h : length (f ∷ fs) ≤ 0 = rw is.0 at far in omega (arith, h))
  by_test (inr is) rest = (is.1, rest (let h : length (f ∷ fs) ≤ 1 + index_of fs p = rw is.0 at far in omega (arith, h)))

push_none : (p : ℕ) (fs : List LargeFrame) (f : LargeFrame) → f.place ≢ p → NoneOf p fs → NoneOf p (fs ++ f ∷ [])
push_none p [] f far h = (far, tt)
push_none p (g ∷ fs) f far h = (h.0, push_none p fs f far h.1)

push_apart : (fs : List LargeFrame) (f : LargeFrame) → NoneOf f.place fs → AreApart fs → AreApart (fs ++ f ∷ [])
push_apart [] f none h = (tt, tt)
push_apart (g ∷ fs) f none h = (push_none g.place fs f (λ e. none.0 (sym e)) h.0, push_apart fs f none.1 h.1)

pub queued_apart : (fs : List LargeFrame) (f : LargeFrame) → AreApart fs → AreApart (queued fs f)
queued_apart fs f apart = by_test (ltb (index_of fs f.place) (length fs)) refl where
  by_test : (b : Bool) → b ≡ ltb (index_of fs f.place) (length fs) → AreApart (if b then fs else (fs ++ f ∷ []))
  by_test true is = apart
  by_test false is = push_apart fs f (none_from fs f.place (grind (arith, is))) apart

set_none : (p i : ℕ) (fs : List LargeFrame) (f g : LargeFrame) → slice_get fs i ≡ Some f → g.place ≡ f.place → NoneOf p fs → NoneOf p (slice_set fs i g)
set_none p zero [] f g at same h = tt
set_none p (suc i) [] f g at same h = tt
set_none p zero (x ∷ fs) f g at same h = let e : x ≡ f = cc at in ((λ is. h.0 (ap (λ (y : LargeFrame). y.place) e ∙ sym same ∙ is)), h.1)
set_none p (suc i) (x ∷ fs) f g at same h = (h.0, set_none p i fs f g at same h.1)

pub set_apart : (i : ℕ) (fs : List LargeFrame) (f g : LargeFrame) → slice_get fs i ≡ Some f → g.place ≡ f.place → AreApart fs → AreApart (slice_set fs i g)
set_apart zero [] f g at same h = tt
set_apart (suc i) [] f g at same h = tt
set_apart zero (x ∷ fs) f g at same h = let e : x ≡ f = cc at in (subst (λ (p : ℕ). NoneOf p fs) (ap (λ (y : LargeFrame). y.place) e ∙ sym same) h.0, h.1)
set_apart (suc i) (x ∷ fs) f g at same h = (set_none x.place i fs f g at same h.0, set_apart i fs f g at same h.1)

removed_none : (p i : ℕ) (fs : List LargeFrame) → NoneOf p fs → NoneOf p (remove fs i)
removed_none p zero [] h = tt
removed_none p (suc i) [] h = tt
removed_none p zero (x ∷ fs) h = h.1
removed_none p (suc i) (x ∷ fs) h = (h.0, removed_none p i fs h.1)

pub removed_apart : (i : ℕ) (fs : List LargeFrame) → AreApart fs → AreApart (remove fs i)
removed_apart zero [] h = tt
removed_apart (suc i) [] h = tt
removed_apart zero (x ∷ fs) h = h.1
removed_apart (suc i) (x ∷ fs) h = (removed_none x.place i fs h.0, removed_apart i fs h.1)
