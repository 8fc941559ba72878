-- That the guests of a server stay its connections.
use Rattle.std.proofs.Common.{arith, ◌≡◌, ◌≢◌, ◌<◌, ◌≤◌, ◌⊎◌, ◌++◌, ◌∷◌, [], ℕ, zero, suc, List, Option, Some, None, true, false, eqb, length, get_or, slice_get, slice_set, sym, subst, ap, refl, inl, inr, ◌∙◌}
use Rattle.std.proofs.lemmas.List.{append_assoc}
use Rattle.std.proofs.lemmas.Bool.Decides.{eqb_tells}
use Rattle.repo_store.specs.Channels.{Passage}
use Rattle.repo_store.specs.Stores.{Store}
use Rattle.repo_hall.specs.declared.guests.Guest.{Guest}
use Rattle.repo_hall.specs.Halls.{Housed, LeavesOthers, StaysGuest, Stands}
use Rattle.repo_hall.specs.Happenings.{Answered, AreInTurn, Brought, Given, Log, Stay, no_stay, stay}
use Rattle.repo_many.specs.declared.places.Place.{Place}
use Rattle.repo_many.specs.declared.sockets.Socket.{Socket}
use Rattle.repo_many.specs.declared.progress.Progress.{Progress}
use Rattle.repo_many.specs.Connected.{AreConnected, IsConnection, IsSeated, IsStill, LeavesPlaces, woken}
use Rattle.repo_many.specs.Endings.{IsOver}
use Rattle.repo_hall.proofs.Hosting.{nothing_happens, there}
use Rattle.repo_many.specs.Wires.{IsLost, IsSpared, IsWired, bare, passages}
use Rattle.repo_many.proofs.Wiring.{serves}

-- ---- lists of places

pub set_own : {X : Type 0} (xs : List X) (k : ℕ) (y z : X) → slice_get (slice_set xs k y) k ≡ Some z → z ≡ y
set_own [] k y z h = none k h where
  none : (k : ℕ) → slice_get (slice_set [] k y) k ≡ Some z → z ≡ y
  none zero h = absurd (cc h)
  none (suc k) h = absurd (cc h)
set_own (x ∷ xs) zero y z h = cc h
set_own (x ∷ xs) (suc k) y z h = set_own xs k y z h

pub set_other : {X : Type 0} (xs : List X) (k : ℕ) (y : X) (j : ℕ) → j ≢ k → slice_get (slice_set xs k y) j ≡ slice_get xs j
set_other [] zero y j other = refl
set_other [] (suc k) y j other = refl
set_other (x ∷ xs) zero y zero other = absurd (other refl)
set_other (x ∷ xs) zero y (suc j) other = refl
set_other (x ∷ xs) (suc k) y zero other = refl
set_other (x ∷ xs) (suc k) y (suc j) other = set_other xs k y j (λ e. other (ap suc e))

pub set_there : {X : Type 0} (xs : List X) (k : ℕ) (y : X) → k < length xs → slice_get (slice_set xs k y) k ≡ Some y
set_there [] k y less = absurd (omega (arith, less))
set_there (x ∷ xs) zero y less = refl
set_there (x ∷ xs) (suc k) y less = set_there xs k y (omega (arith, less))

pub set_long : {X : Type 0} (xs : List X) (k : ℕ) (y : X) → length (slice_set xs k y) ≡ length xs
set_long [] zero y = refl
set_long [] (suc k) y = refl
set_long (x ∷ xs) zero y = refl
set_long (x ∷ xs) (suc k) y = ap suc (set_long xs k y)

-- what a list has once one of it was taken out, and another one was put there
pub again_other : {X : Type 0} (xs : List X) (k : ℕ) (y z : X) (j : ℕ) → j ≢ k → slice_get (slice_set (slice_set xs k y) k z) j ≡ slice_get xs j
again_other xs k y z j other = set_other (slice_set xs k y) k z j other ∙ set_other xs k y j other

pub again_there : {X : Type 0} (xs : List X) (k : ℕ) (y z : X) → k < length xs → slice_get (slice_set (slice_set xs k y) k z) k ≡ Some z
again_there xs k y z less = set_there (slice_set xs k y) k z (let l = set_long xs k y in omega (arith, less, l))

pub get_at : {X : Type 0} (xs : List X) (k : ℕ) (d : X) → k < length xs → d ≡ get_or xs k d → slice_get xs k ≡ Some d
get_at [] k d less e = absurd (omega (arith, less))
get_at (x ∷ xs) zero d less e = ap Some (sym e)
get_at (x ∷ xs) (suc k) d less e = get_at xs k d (omega (arith, less)) e

pub get_far : {X : Type 0} (xs : List X) (k : ℕ) → length xs ≤ k → slice_get xs k ≡ None
get_far [] k far = refl
get_far (x ∷ xs) zero far = absurd (omega (arith, far))
get_far (x ∷ xs) (suc k) far = get_far xs k (omega (arith, far))

-- what is at a place
pub place_case : {C : Type 0} (o : Option (Place C)) → ((s : Socket C) × (o ≡ Some (Place.Taken s))) ⊎ ((s : Socket C) → o ≢ Some (Place.Taken s))
place_case None = inr (λ s e. absurd (cc e))
place_case (Some Place.Free) = inr (λ s e. absurd (cc e))
place_case (Some Place.LeftOut) = inr (λ s e. absurd (cc e))
place_case (Some (Place.Taken s)) = inl (s, refl)

-- ---- places that stay

pub still_same : {C : Type 0} (old new : List (Place C)) → ((j : ℕ) → slice_get new j ≡ slice_get old j) → IsStill old new
still_same old new same = ((λ j t here. (t, sym (same j) ∙ here, refl)), (λ j here. sym (same j) ∙ here))

pub still_on : {C : Type 0} (a b c : List (Place C)) → IsStill a b → IsStill b c → IsStill a c
still_on a b c first second = (
  (λ j u here. (let t = second.0 j u here in let s = first.0 j t.0 t.1 in (s.0, s.1, t.2 ∙ s.2))),
  (λ j here. first.1 j (second.1 j here)),
)

-- what was taken out is put back
pub again_same : {X : Type 0} (xs : List X) (k : ℕ) (y z : X) → k < length xs → slice_get xs k ≡ Some z → (j : ℕ) → slice_get (slice_set (slice_set xs k y) k z) j ≡ slice_get xs j
again_same xs k y z less at j = by_test (eqb_tells j k) where
  by_test : ((eqb j k ≡ true) × (j ≡ k)) ⊎ ((eqb j k ≡ false) × (j ≢ k)) → slice_get (slice_set (slice_set xs k y) k z) j ≡ slice_get xs j
  by_test (inl is) = subst (λ (i : ℕ). slice_get (slice_set (slice_set xs k y) k z) i ≡ slice_get xs i) (sym is.1) (again_there xs k y z less ∙ sym at)
  by_test (inr is) = again_other xs k y z j is.1

-- a connection that is ready stands where it stood
pub woken_still : {C : Type 0} (xs : List (Place C)) (k : ℕ) (y z : Place C) → k < length xs → slice_get xs k ≡ Some z → IsStill xs (slice_set (slice_set xs k y) k (woken z))
woken_still {C} xs k y z less at = ((λ j t here. taken_at j t here (eqb_tells j k)), (λ j here. free_at j here (eqb_tells j k))) where
  own_taken : (z : Place C) (t : Socket C) → slice_get xs k ≡ Some z → woken z ≡ Place.Taken t → (s : Socket C) × (slice_get xs k ≡ Some (Place.Taken s)) × (t.stream ≡ s.stream)
  own_taken Place.Free t at e = absurd (cc e)
  own_taken Place.LeftOut t at e = absurd (cc e)
  own_taken (Place.Taken s) t at e = (s, at, let same : t ≡ record { stream = s.stream; since = s.since; ready = true; at_end = s.at_end; named = s.named } = cc e in ap (λ (x : Socket C). x.stream) same)

  own_free : (z : Place C) → slice_get xs k ≡ Some z → woken z ≡ Place.Free → slice_get xs k ≡ Some Place.Free
  own_free Place.Free at e = at
  own_free Place.LeftOut at e = absurd (cc e)
  own_free (Place.Taken s) at e = absurd (cc e)

  taken_at : (j : ℕ) (t : Socket C) → slice_get (slice_set (slice_set xs k y) k (woken z)) j ≡ Some (Place.Taken t) → ((eqb j k ≡ true) × (j ≡ k)) ⊎ ((eqb j k ≡ false) × (j ≢ k))
      → (s : Socket C) × (slice_get xs j ≡ Some (Place.Taken s)) × (t.stream ≡ s.stream)
  taken_at j t here (inl is) =
      let mine = subst (λ (i : ℕ). slice_get (slice_set (slice_set xs k y) k (woken z)) i ≡ Some (Place.Taken t)) is.1 here in
      let e = sym (set_own (slice_set xs k y) k (woken z) (Place.Taken t) mine) in
      let s = own_taken z t at e in
      (s.0, subst (λ (i : ℕ). slice_get xs i ≡ Some (Place.Taken s.0)) (sym is.1) s.1, s.2)
  taken_at j t here (inr is) = (t, sym (again_other xs k y (woken z) j is.1) ∙ here, refl)

  free_at : (j : ℕ) → slice_get (slice_set (slice_set xs k y) k (woken z)) j ≡ Some Place.Free → ((eqb j k ≡ true) × (j ≡ k)) ⊎ ((eqb j k ≡ false) × (j ≢ k)) → slice_get xs j ≡ Some Place.Free
  free_at j here (inl is) =
      let mine = subst (λ (i : ℕ). slice_get (slice_set (slice_set xs k y) k (woken z)) i ≡ Some Place.Free) is.1 here in
      subst (λ (i : ℕ). slice_get xs i ≡ Some Place.Free) (sym is.1) (own_free z at (sym (set_own (slice_set xs k y) k (woken z) Place.Free mine)))
  free_at j here (inr is) = sym (again_other xs k y (woken z) j is.1) ∙ here

-- a turn by which a connection ends, or not
pub over_case : (progress : Progress) → IsOver progress ⊎ (¬ IsOver progress)
over_case Progress.Still = inr (λ never. never)
over_case Progress.Barred = inr (λ never. never)
over_case Progress.Moved = inr (λ never. never)
over_case Progress.AtEnd = inl tt
over_case Progress.TooSlow = inl tt
over_case (Progress.Failed error) = inl tt

-- nothing is lost by a turn after which the connection goes on
pub goes_on_whole : (progress : Progress) (lost : List Passage) → ¬ IsOver progress → IsLost progress lost → lost ≡ []
goes_on_whole progress lost on (inl none) = none
goes_on_whole progress lost on (inr failed) = absurd (on (subst (λ (p : Progress). IsOver p) (sym failed) tt))

-- ---- a guest to which nothing happened

front_nil : (xs ys : List ℕ) → xs ++ ys ≡ [] → (xs ≡ []) × (ys ≡ [])
front_nil [] ys e = (refl, e)
front_nil (x ∷ xs) ys e = absurd (cc e)

untouched : (n : ℕ) (log : Log) → (stay n log).bytes ≡ [] → (stay n log).given ≡ [] → bare (passages n log) ≡ []
untouched n [] bytes given = refl
untouched n (Brought k piece ∷ log) bytes given = by_test (eqb_tells k n) (untouched n log) bytes given where
  by_test : ((eqb k n ≡ true) × (k ≡ n)) ⊎ ((eqb k n ≡ false) × (k ≢ n)) → ((stay n log).bytes ≡ [] → (stay n log).given ≡ [] → bare (passages n log) ≡ [])
      → (stay n (Brought k piece ∷ log)).bytes ≡ [] → (stay n (Brought k piece ∷ log)).given ≡ [] → bare (passages n (Brought k piece ∷ log)) ≡ []
  by_test (inl is) before bytes given =
      let b = front_nil (stay n log).bytes piece (rw is.0 at bytes) in
      rw (is.0, b.1) (before b.0 (rw is.0 at given))
  by_test (inr is) before bytes given = rw is.0 (before (rw is.0 at bytes) (rw is.0 at given))
untouched n (Answered k request reply ∷ log) bytes given = by_test (eqb_tells k n) (untouched n log) bytes given where
  by_test : ((eqb k n ≡ true) × (k ≡ n)) ⊎ ((eqb k n ≡ false) × (k ≢ n)) → ((stay n log).bytes ≡ [] → (stay n log).given ≡ [] → bare (passages n log) ≡ [])
      → (stay n (Answered k request reply ∷ log)).bytes ≡ [] → (stay n (Answered k request reply ∷ log)).given ≡ [] → bare (passages n log) ≡ []
  by_test (inl is) before bytes given = before (rw is.0 at bytes) (rw is.0 at given)
  by_test (inr is) before bytes given = before (rw is.0 at bytes) (rw is.0 at given)
untouched n (Given k piece ∷ log) bytes given = by_test (eqb_tells k n) (untouched n log) bytes given where
  by_test : ((eqb k n ≡ true) × (k ≡ n)) ⊎ ((eqb k n ≡ false) × (k ≢ n)) → ((stay n log).bytes ≡ [] → (stay n log).given ≡ [] → bare (passages n log) ≡ [])
      → (stay n (Given k piece ∷ log)).bytes ≡ [] → (stay n (Given k piece ∷ log)).given ≡ [] → bare (passages n (Given k piece ∷ log)) ≡ []
  by_test (inl is) before bytes given =
      let b = front_nil (stay n log).given piece (rw is.0 at given) in
      rw (is.0, b.1) (before (rw is.0 at bytes) b.0)
  by_test (inr is) before bytes given = rw is.0 (before (rw is.0 at bytes) (rw is.0 at given))

-- one free place more
pub more_free : {C : Type 0} (places : List (Place C)) → ((j : ℕ) (s : Socket C) → slice_get places j ≢ Some (Place.Taken s)) → (j : ℕ) (s : Socket C) → slice_get (places ++ Place.Free ∷ []) j ≢ Some (Place.Taken s)
more_free [] free zero s e = absurd (cc e)
more_free [] free (suc j) s e = absurd (cc e)
more_free (p ∷ places) free zero s e = free zero s e
more_free (p ∷ places) free (suc j) s e = more_free places (λ i t f. free (suc i) t f) j s e

pub none_taken : {C : Type 0} (j : ℕ) (s : Socket C) → slice_get {X = Place C} [] j ≢ Some (Place.Taken s)
none_taken zero s e = absurd (cc e)
none_taken (suc j) s e = absurd (cc e)

module _ {C : Type 0} (Hears Says : C → List ℕ → C → Type 0) where
  -- ---- one turn

  -- nothing happened to a guest that is spared
  spared_connection : (n : ℕ) (log next : Log) → IsSpared n log next → IsConnection Hears Says n log → IsConnection Hears Says n next
  spared_connection n log next spared (inl none) = inl (spared.0 ∙ none)
  spared_connection n log next spared (inr (came, left, lost, wired)) = inr (came, left, lost, subst (λ (ps : List Passage). IsWired Hears Says came (lost ++ ps) left) (sym spared.1) wired)

  each_on : (number : ℕ) (log next : Log) → ((n : ℕ) → n ≢ number → IsSpared n log next) → IsConnection Hears Says number next → ((n : ℕ) → IsConnection Hears Says n log) → (n : ℕ) → IsConnection Hears Says n next
  each_on number log next spared own all n = by_test (eqb_tells n number) where
    by_test : ((eqb n number ≡ true) × (n ≡ number)) ⊎ ((eqb n number ≡ false) × (n ≢ number)) → IsConnection Hears Says n next
    by_test (inl is) = subst (λ (k : ℕ). IsConnection Hears Says k next) (sym is.1) own
    by_test (inr is) = spared_connection n log next (spared n is.1) (all n)

  -- a turn of the connection at a place, after which the place has what it has
  pub turned : (old new : List (Place C)) (guests after : List Guest) (entered place : ℕ) (log next : Log) (g : Guest) (s : Socket C) (left : C) (lost : List Passage) → Housed guests entered log
      → slice_get guests place ≡ Some g → slice_get old place ≡ Some (Place.Taken s) → LeavesPlaces old place new → LeavesOthers guests place after
      → ((n : ℕ) → n ≢ g.number → IsSpared n log next) → ((came : C) → IsWired Hears Says came (passages g.number log) s.stream → IsWired Hears Says came (lost ++ passages g.number next) left)
      → ((t : Socket C) (h : Guest) → slice_get new place ≡ Some (Place.Taken t) → slice_get after place ≡ Some h → (h.number ≡ g.number) × (t.stream ≡ left) × (lost ≡ []))
      → ((h : Guest) → slice_get new place ≡ Some Place.Free → slice_get after place ≡ Some h → stay h.number next ≡ no_stay)
      → AreConnected Hears Says old guests log → AreConnected Hears Says new after next
  turned old new guests after entered place log next g s left lost housed at seat kept others spared wired stays renewed are = record {
    taken = λ j t h here found. taken_at j t h here found (eqb_tells j place);
    free = λ j h here found. free_at j h here found (eqb_tells j place);
    each = each_on g.number log next spared (inr (mine.0, left, lost, wired mine.0 mine.1)) are.each;
  } where
    mine : (came : C) × IsWired Hears Says came (passages g.number log) s.stream
    mine = are.taken place s g seat at

    far : (j : ℕ) (h : Guest) → j ≢ place → slice_get after j ≡ Some h → IsSpared h.number log next
    far j h other found = spared h.number (λ same. other (housed.apart j place h g (sym (others j other) ∙ found) at same))

    taken_at : (j : ℕ) (t : Socket C) (h : Guest) → slice_get new j ≡ Some (Place.Taken t) → slice_get after j ≡ Some h → ((eqb j place ≡ true) × (j ≡ place)) ⊎ ((eqb j place ≡ false) × (j ≢ place))
        → (came : C) × IsWired Hears Says came (passages h.number next) t.stream
    taken_at j t h here found (inl is) =
        let e = stays t h (subst (λ (i : ℕ). slice_get new i ≡ Some (Place.Taken t)) is.1 here) (subst (λ (i : ℕ). slice_get after i ≡ Some h) is.1 found) in
        let w = subst (λ (ps : List Passage). IsWired Hears Says mine.0 (ps ++ passages g.number next) left) e.2 (wired mine.0 mine.1) in
        (mine.0, subst (λ (n : ℕ). IsWired Hears Says mine.0 (passages n next) t.stream) (sym e.0) (subst (λ (c : C). IsWired Hears Says mine.0 (passages g.number next) c) (sym e.1) w))
    taken_at j t h here found (inr is) =
        let before = are.taken j t h (sym (kept j is.1) ∙ here) (sym (others j is.1) ∙ found) in
        (before.0, subst (λ (ps : List Passage). IsWired Hears Says before.0 ps t.stream) (sym (far j h is.1 found).1) before.1)

    free_at : (j : ℕ) (h : Guest) → slice_get new j ≡ Some Place.Free → slice_get after j ≡ Some h → ((eqb j place ≡ true) × (j ≡ place)) ⊎ ((eqb j place ≡ false) × (j ≢ place)) → stay h.number next ≡ no_stay
    free_at j h here found (inl is) = renewed h (subst (λ (i : ℕ). slice_get new i ≡ Some Place.Free) is.1 here) (subst (λ (i : ℕ). slice_get after i ≡ Some h) is.1 found)
    free_at j h here found (inr is) = (far j h is.1 found).0 ∙ are.free j h (sym (kept j is.1) ∙ here) (sym (others j is.1) ∙ found)

  -- ---- between turns

  -- a connection came to a free place
  pub seated : (old new : List (Place C)) (guests : List Guest) (place : ℕ) (log : Log) → IsSeated old place new → AreConnected Hears Says old guests log → AreConnected Hears Says new guests log
  seated old new guests place log (kept, came) are = record {
    taken = λ j t h here found. taken_at j t h here found (eqb_tells j place) came;
    free = λ j h here found. free_at j h here found (eqb_tells j place) came;
    each = are.each;
  } where
    taken_at : (j : ℕ) (t : Socket C) (h : Guest) → slice_get new j ≡ Some (Place.Taken t) → slice_get guests j ≡ Some h → ((eqb j place ≡ true) × (j ≡ place)) ⊎ ((eqb j place ≡ false) × (j ≢ place))
        → (slice_get new place ≡ slice_get old place) ⊎ ((slice_get old place ≡ Some Place.Free) × ((s : Socket C) × (slice_get new place ≡ Some (Place.Taken s))))
        → (came : C) × IsWired Hears Says came (passages h.number log) t.stream
    taken_at j t h here found (inr is) came = are.taken j t h (sym (kept j is.1) ∙ here) found
    taken_at j t h here found (inl is) (inl same) = are.taken j t h (subst (λ (i : ℕ). slice_get old i ≡ Some (Place.Taken t)) (sym is.1) (sym same ∙ subst (λ (i : ℕ). slice_get new i ≡ Some (Place.Taken t)) is.1 here)) found
    taken_at j t h here found (inl is) (inr (free, (s, at))) =
        let none = are.free j h (subst (λ (i : ℕ). slice_get old i ≡ Some Place.Free) (sym is.1) free) found in
        (t.stream, ([], refl, sym (untouched h.number log (ap (λ (v : Stay). v.bytes) none) (ap (λ (v : Stay). v.given) none))))

    free_at : (j : ℕ) (h : Guest) → slice_get new j ≡ Some Place.Free → slice_get guests j ≡ Some h → ((eqb j place ≡ true) × (j ≡ place)) ⊎ ((eqb j place ≡ false) × (j ≢ place))
        → (slice_get new place ≡ slice_get old place) ⊎ ((slice_get old place ≡ Some Place.Free) × ((s : Socket C) × (slice_get new place ≡ Some (Place.Taken s)))) → stay h.number log ≡ no_stay
    free_at j h here found (inr is) came = are.free j h (sym (kept j is.1) ∙ here) found
    free_at j h here found (inl is) (inl same) = are.free j h (subst (λ (i : ℕ). slice_get old i ≡ Some Place.Free) (sym is.1) (sym same ∙ subst (λ (i : ℕ). slice_get new i ≡ Some Place.Free) is.1 here)) found
    free_at j h here found (inl is) (inr (free, (s, at))) = are.free j h (subst (λ (i : ℕ). slice_get old i ≡ Some Place.Free) (sym is.1) free) found

  -- each connection stands where it stood
  pub still : (old new : List (Place C)) (guests : List Guest) (log : Log) → IsStill old new → AreConnected Hears Says old guests log → AreConnected Hears Says new guests log
  still old new guests log (taken, free) are = record {
    taken = λ j t h here found. (let s = taken j t here in let before = are.taken j s.0 h s.1 found in (before.0, subst (λ (c : C). IsWired Hears Says before.0 (passages h.number log) c) (sym s.2) before.1));
    free = λ j h here found. are.free j h (free j here) found;
    each = are.each;
  }

  -- where all places are free, and nothing happened
  pub begun : (places : List (Place C)) (guests : List Guest) → ((j : ℕ) (s : Socket C) → slice_get places j ≢ Some (Place.Taken s)) → AreConnected Hears Says places guests []
  begun places guests free = record {
    taken = λ j s g here found. absurd (free j s here);
    free = λ j g here found. refl;
    each = λ n. inl refl;
  }

  -- ---- what leads on

  abbrev pub connects : List (Place C) → List Guest → ℕ → Store → ℕ → List (Place C) → List Guest → ℕ → Store → ℕ → Type 0
  connects places old entered mid k after new entering to l = (from : Store) (failed : ℕ) (log : Log) → Stands from failed old entered log mid k → AreInTurn log → AreConnected Hears Says places old log
      → (more : Log) × Stands from failed new entering (more ++ log) to l × AreInTurn (more ++ log) × AreConnected Hears Says after new (more ++ log)

  pub connects_same : (places : List (Place C)) (guests : List Guest) (entered : ℕ) (mid : Store) (k : ℕ) → connects places guests entered mid k places guests entered mid k
  connects_same places guests entered mid k from failed log s turns are = ([], s, turns, are)

  pub connects_on : (p : List (Place C)) (old : List Guest) (entered : ℕ) (a : Store) (k : ℕ) (q : List (Place C)) (mid : List Guest) (between : ℕ) (b : Store) (l : ℕ) (r : List (Place C)) (new : List Guest) (entering : ℕ) (c : Store) (m : ℕ)
      → connects p old entered a k q mid between b l → connects q mid between b l r new entering c m → connects p old entered a k r new entering c m
  connects_on p old entered a k q mid between b l r new entering c m h g from failed log s turns are =
      let x = h from failed log s turns are in
      let y = g from failed (x.0 ++ log) x.1 x.2 x.3 in
      let all = sym (append_assoc y.0 x.0 log) in
      (y.0 ++ x.0, subst (λ (z : Log). Stands from failed new entering z c m) all y.1, subst AreInTurn all y.2, subst (λ (z : Log). AreConnected Hears Says r new z) all y.3)

  -- a turn of the connection at a place, and what became of the place
  pub place_served : (old new : List (Place C)) (guests turned_guests after : List Guest) (entered between entering place : ℕ) (a b : Store) (k l : ℕ) (s t : Socket C) (lost : List Passage)
      → place < length guests → slice_get old place ≡ Some (Place.Taken s)
      → serves Hears Says guests entered a k place s.stream lost turned_guests between b l t.stream → nothing_happens turned_guests between after entering
      → LeavesPlaces old place new → LeavesOthers guests place after
      → ((u : Socket C) (g h : Guest) → slice_get new place ≡ Some (Place.Taken u) → slice_get guests place ≡ Some g → slice_get after place ≡ Some h → (h.number ≡ g.number) × (u.stream ≡ t.stream) × (lost ≡ []))
      → ((h : Guest) → slice_get new place ≡ Some Place.Free → slice_get after place ≡ Some h → h.number ≡ between)
      → connects old guests entered a k new after entering b l
  place_served old new guests turned_guests after entered between entering place a b k l s t lost less seat h nothing kept others stays renewed from failed log stands turns are =
      let g = there guests place less in
      let x = h from failed log stands turns g.0 g.1 in (
        x.0,
        nothing from b failed l (x.0 ++ log) x.1,
        x.2,
        turned old new guests after entered place log (x.0 ++ log) g.0 s t.stream lost stands.housed g.1 seat kept others x.3 x.4
            (λ u f here found. stays u g.0 f here g.1 found) (λ f here found. x.1.housed.later f.number (let n = renewed f here found in omega (arith, n))) are,
      )

  -- a place's turn, and what became of it
  pub place_leads : (P M N : List (Place C)) (G H K : List Guest) (entered between entering place : ℕ) (a b : Store) (k l : ℕ) (progress : Progress) → place < length G
      → ((s : Socket C) → slice_get P place ≡ Some (Place.Taken s)
      → (t : Socket C) × (slice_get M place ≡ Some (Place.Taken t)) × (lost : List Passage) × IsLost progress lost × serves Hears Says G entered a k place s.stream lost H between b l t.stream)
      → (((s : Socket C) → slice_get P place ≢ Some (Place.Taken s)) → (progress ≡ Progress.Still) × ((H ≡ G) × (between ≡ entered)) × IsStill P M × ((b ≡ a) × (l ≡ k)))
      → LeavesPlaces P place M → LeavesOthers G place H → StaysGuest G place H
      → nothing_happens H between K entering → LeavesPlaces M place N → LeavesOthers H place K
      → (IsOver progress → (u : Socket C) → slice_get N place ≢ Some (Place.Taken u)) → ((¬ IsOver progress) → (N ≡ M) × ((K ≡ H) × (entering ≡ between)))
      → (IsOver progress → slice_get N place ≡ Some Place.Free → (h : Guest) → slice_get K place ≡ Some h → h.number ≡ between)
      → connects P G entered a k N K entering b l
  place_leads P M N G H K entered between entering place a b k l progress less turn nobody kept others guest nothing keeps leaves closed stays renewed = by_place (place_case (slice_get P place)) (over_case progress) where
    Turned : Socket C → Type 0
    Turned s = (t : Socket C) × (slice_get M place ≡ Some (Place.Taken t)) × (lost : List Passage) × IsLost progress lost × serves Hears Says G entered a k place s.stream lost H between b l t.stream

    stays_of : (t : Socket C) (lost : List Passage) → slice_get M place ≡ Some (Place.Taken t) → IsLost progress lost → IsOver progress ⊎ (¬ IsOver progress) → (u : Socket C) (g h : Guest)
        → slice_get N place ≡ Some (Place.Taken u) → slice_get G place ≡ Some g → slice_get K place ≡ Some h → (h.number ≡ g.number) × (u.stream ≡ t.stream) × (lost ≡ [])
    stays_of t lost seat is (inl over) u g h here gat found = absurd (closed over u here)
    stays_of t lost seat is (inr on) u g h here gat found =
        let e = stays on in
        let mine : slice_get M place ≡ Some (Place.Taken u) = subst (λ (xs : List (Place C)). slice_get xs place ≡ Some (Place.Taken u)) e.0 here in
        let same : u ≡ t = cc (mine, seat) in
        (guest g h gat (subst (λ (xs : List Guest). slice_get xs place ≡ Some h) e.1.0 found), ap (λ (x : Socket C). x.stream) same, goes_on_whole progress lost on is)

    renewed_of : (t : Socket C) → slice_get M place ≡ Some (Place.Taken t) → IsOver progress ⊎ (¬ IsOver progress) → (h : Guest) → slice_get N place ≡ Some Place.Free → slice_get K place ≡ Some h → h.number ≡ between
    renewed_of t seat (inl over) h here found = renewed over here h found
    renewed_of t seat (inr on) h here found =
        let mine : slice_get M place ≡ Some Place.Free = subst (λ (xs : List (Place C)). slice_get xs place ≡ Some Place.Free) (stays on).0 here in
        absurd (cc (mine, seat))

    by_place : ((s : Socket C) × (slice_get P place ≡ Some (Place.Taken s))) ⊎ ((s : Socket C) → slice_get P place ≢ Some (Place.Taken s)) → IsOver progress ⊎ (¬ IsOver progress) → connects P G entered a k N K entering b l
    by_place (inl (s, seat)) over =
        let v = turn s seat in
        place_served P N G H K entered between entering place a b k l s v.0 v.2 less seat v.4 nothing (λ j o. keeps j o ∙ kept j o) (λ j o. leaves j o ∙ others j o)
        (stays_of v.0 v.2 v.1 v.3 over) (renewed_of v.0 v.1 over)
    by_place (inr none) over = λ from failed log s turns are.
        let n = nobody none in
        let e = stays (λ o. subst (λ (p : Progress). IsOver p) n.0 o) in
        let places = still P M G log n.2 are in (
          [],
          nothing from b failed l log (subst (λ (x : List Guest). Stands from failed x between log b l) (sym n.1.0) (subst (λ (x : ℕ). Stands from failed G x log b l) (sym n.1.1)
              (subst (λ (x : Store). Stands from failed G entered log x l) (sym n.3.0) (subst (λ (x : ℕ). Stands from failed G entered log a x) (sym n.3.1) s)))),
          turns,
          subst (λ (x : List (Place C)). AreConnected Hears Says x K log) (sym e.0) (subst (λ (x : List Guest). AreConnected Hears Says M x log) (sym (e.1.0 ∙ n.1.0)) places),
        )

  pub connects_seated : (p q : List (Place C)) (guests : List Guest) (entered place : ℕ) (mid : Store) (k : ℕ) → IsSeated p place q → connects p guests entered mid k q guests entered mid k
  connects_seated p q guests entered place mid k is from failed log s turns are = ([], s, turns, seated p q guests place log is are)

  pub connects_still : (p q : List (Place C)) (guests : List Guest) (entered : ℕ) (mid : Store) (k : ℕ) → IsStill p q → connects p guests entered mid k q guests entered mid k
  connects_still p q guests entered mid k is from failed log s turns are = ([], s, turns, still p q guests log is are)
