-- One tree of a list is looked at once more.
use Rattle.std.specs.Prelude.{slice_set}
use Rattle.std.proofs.Common.{arith, not, ◌≡◌, ◌≢◌, ◌<◌, ◌≤◌, ◌+◌, ◌⊎◌, ◌∷◌, [], ℕ, zero, suc, Bool, true, false, List, length, slice_get, get_or, Some, refl, sym, ap, subst, inl, inr, ⊎_elim, ◌∙◌}
use Rattle.std.proofs.lemmas.List.Sums.{sum_by-set}
use Rattle.std.proofs.lemmas.Option.{same_Some, none-some, slice_get_within, get_or_from_slice_get}
use Rattle.repo_reach.specs.Walks.{flags_of, WasAt, Flags, IsSameTree, unset}
use Rattle.repo_reach.specs.declared.looks.Seen.{Seen}

pub set_length : {X : Type 0} (xs : List X) (i : ℕ) (y : X) → length (slice_set xs i y) ≡ length xs
set_length [] i y = refl
set_length (x ∷ xs) zero y = refl
set_length (x ∷ xs) (suc i) y = ap suc (set_length xs i y)

pub get_set : {X : Type 0} (xs : List X) (i : ℕ) (y : X) → i < length xs → slice_get (slice_set xs i y) i ≡ Some y
get_set [] i y h = absurd (omega (arith, h))
get_set (x ∷ xs) zero y h = refl
get_set (x ∷ xs) (suc i) y h = get_set xs i y (omega (arith, h))

-- an element of the list with one replaced
pub set_back : {X : Type 0} (xs : List X) (i : ℕ) (y : X) (j : ℕ) (z : X) → slice_get (slice_set xs i y) j ≡ Some z → ((j ≡ i) × (z ≡ y)) ⊎ (slice_get xs j ≡ Some z)
set_back [] i y j z h = inr h
set_back (x ∷ xs) zero y zero z h = inl (refl, sym (same_Some y z h))
set_back (x ∷ xs) zero y (suc j) z h = inr h
set_back (x ∷ xs) (suc i) y zero z h = inr h
set_back (x ∷ xs) (suc i) y (suc j) z h = ⊎_elim (λ g. inl (ap suc g.0, g.1)) inr (set_back xs i y j z h)

pub set_on : {X : Type 0} (xs : List X) (i : ℕ) (y : X) (j : ℕ) (z : X) → slice_get xs j ≡ Some z → ((j ≡ i) × (slice_get (slice_set xs i y) j ≡ Some y)) ⊎ (slice_get (slice_set xs i y) j ≡ Some z)
set_on [] i y j z h = inr h
set_on (x ∷ xs) zero y zero z h = inl (refl, refl)
set_on (x ∷ xs) zero y (suc j) z h = inr h
set_on (x ∷ xs) (suc i) y zero z h = inr h
set_on (x ∷ xs) (suc i) y (suc j) z h = ⊎_elim (λ g. inl (ap suc g.0, g.1)) inr (set_on xs i y j z h)

unset_set : (flags : List Bool) (d : ℕ) → slice_get flags d ≡ Some false → unset (slice_set flags d true) + 1 ≡ unset flags
unset_set [] d h = absurd (none-some false h)
unset_set (true ∷ flags) zero h = absurd (let w : true ≡ false = same_Some true false h in cc)
unset_set (false ∷ flags) zero h = refl
unset_set (true ∷ flags) (suc d) h = unset_set flags d h
unset_set (false ∷ flags) (suc d) h = let n = unset_set flags d h in omega (arith, n)

pub same_tree : (seen : Seen) → IsSameTree seen seen
same_tree seen = record { name = refl; links = refl; joint = refl; flags = λ f. refl }

-- nothing is noted where nothing stands
pub flags_same : (all : List Seen) (at : ℕ) (follows : Bool) (depth : ℕ) → ((seen : Seen) → slice_get all at ≡ Some seen → ⊥) → Flags all at follows depth all
flags_same all at follows depth none = record {
  back = λ i s h. (s, h, same_tree s, λ f d w. inl w);
  on = λ i s h. (s, h, same_tree s, λ f d w. w);
  now = λ s h within. absurd (none s h);
  fewer = λ s h flag. absurd (none s h);
}

pub set_past : {X : Type 0} (xs : List X) (i : ℕ) (y : X) → length xs ≤ i → slice_set xs i y ≡ xs
set_past [] i y h = refl
set_past (x ∷ xs) zero y h = absurd (omega (arith, h))
set_past (x ∷ xs) (suc i) y h = ap (λ zs. x ∷ zs) (set_past xs i y (omega (arith, h)))

same_or_not : (f g : Bool) → (f ≡ g) ⊎ (f ≡ not g)
same_or_not true true = inl refl
same_or_not true false = inr refl
same_or_not false true = inr refl
same_or_not false false = inl refl

-- how many flags of a tree aren't set
abbrev left : Seen → ℕ
left seen = unset seen.depths.items + unset seen.followed.items

left_less : (old new : Seen) (follows : Bool) (depth : ℕ) → flags_of new follows ≡ slice_set (flags_of old follows) depth true → flags_of new (not follows) ≡ flags_of old (not follows) → slice_get (flags_of old follows) depth ≡ Some false → left new + 1 ≡ left old
left_less old new true depth one other was =
    let a : unset new.followed.items + 1 ≡ unset old.followed.items = ap (λ fs. unset fs + 1) one ∙ unset_set old.followed.items depth was in
    let b : unset new.depths.items ≡ unset old.depths.items = ap unset other in
    omega (arith, a, b)
left_less old new false depth one other was =
    let a : unset new.depths.items + 1 ≡ unset old.depths.items = ap (λ fs. unset fs + 1) one ∙ unset_set old.depths.items depth was in
    let b : unset new.followed.items ≡ unset old.followed.items = ap unset other in
    omega (arith, a, b)

-- the same tree with one flag set
module _ (old new : Seen) (follows : Bool) (depth : ℕ) (name : new.name ≡ old.name) (links : new.links ≡ old.links) (joint : new.joint ≡ old.joint)
    (one : flags_of new follows ≡ slice_set (flags_of old follows) depth true) (other : flags_of new (not follows) ≡ flags_of old (not follows)) where
  counted : (f : Bool) → length (flags_of new f) ≡ length (flags_of old f)
  counted f = ⊎_elim (λ e. subst (λ g. length (flags_of new g) ≡ length (flags_of old g)) (sym e) (ap length one ∙ set_length (flags_of old follows) depth true))
      (λ e. subst (λ g. length (flags_of new g) ≡ length (flags_of old g)) (sym e) (ap length other)) (same_or_not f follows)

  set_tree : IsSameTree old new
  set_tree = record { name = name; links = links; joint = joint; flags = counted }

  was_back : (f : Bool) (d : ℕ) → WasAt new f d → WasAt old f d ⊎ ((f ≡ follows) × (d ≡ depth))
  was_back f d w = ⊎_elim
      (λ e. ⊎_elim (λ g. inr (e, g.0)) (λ g. inl (subst (λ h. WasAt old h d) (sym e) g)) (set_back (flags_of old follows) depth true d true (sym (ap (λ ds. slice_get ds d) one) ∙ subst (λ h. WasAt new h d) e w)))
      (λ e. inl (subst (λ h. WasAt old h d) (sym e) (sym (ap (λ ds. slice_get ds d) other) ∙ subst (λ h. WasAt new h d) e w))) (same_or_not f follows)

  was_on : (f : Bool) (d : ℕ) → WasAt old f d → WasAt new f d
  was_on f d w = ⊎_elim
      (λ e. subst (λ h. WasAt new h d) (sym e) (ap (λ ds. slice_get ds d) one ∙ ⊎_elim (λ g. g.1) (λ g. g) (set_on (flags_of old follows) depth true d true (subst (λ h. WasAt old h d) e w))))
      (λ e. subst (λ h. WasAt new h d) (sym e) (ap (λ ds. slice_get ds d) other ∙ subst (λ h. WasAt old h d) e w)) (same_or_not f follows)

  -- in its list
  pub flags_set : (all : List Seen) (at : ℕ) → slice_get all at ≡ Some old → Flags all at follows depth (slice_set all at new)
  flags_set all at there = record {
    back = λ i s h. ⊎_elim (λ g. (
      old,
      ap (λ j. slice_get all j) g.0 ∙ there,
      subst (λ z. IsSameTree old z) (sym g.1) set_tree,
      λ f d w. ⊎_elim (λ a. inl a) (λ e. inr (g.0, e.0, e.1)) (was_back f d (subst (λ z. WasAt z f d) g.1 w)),
    )) (λ g. (s, g, same_tree s, λ f d w. inl w)) (set_back all at new i s h);
    on = λ i s h. ⊎_elim (λ g. (let is : old ≡ s = same_Some old s (sym there ∙ ap (λ j. slice_get all j) (sym g.0) ∙ h) in (
      new,
      g.1,
      subst (λ z. IsSameTree z new) is set_tree,
      λ f d w. was_on f d (subst (λ z. WasAt z f d) (sym is) w),
    ))) (λ g. (s, g, same_tree s, λ f d w. w)) (set_on all at new i s h);
    now = λ s h within.
        let is : old ≡ s = same_Some old s (sym there ∙ h) in (
          new,
          get_set all at new (slice_get_within all at old there),
          ap (λ ds. slice_get ds depth) one ∙ get_set (flags_of old follows) depth true (subst (λ z. depth < length (flags_of z follows)) (sym is) within),
        );
    fewer = λ s h flag.
        let is : old ≡ s = same_Some old s (sym there ∙ h) in
        let was : slice_get (flags_of old follows) depth ≡ Some false = subst (λ z. slice_get (flags_of z follows) depth ≡ Some false) (sym is) flag in
        let less = left_less old new follows depth one other was in
        let sums = sum_by-set (λ (z : Seen). left z) all at new old (slice_get_within all at old there) in
        let kept : get_or all at old ≡ old = get_or_from_slice_get all at old old there in
        let same : left (get_or all at old) ≡ left old = ap (λ (z : Seen). left z) kept in
        omega (arith, less, sums, same);
  }

-- of a part, or of a directory by itself
pub flag_followed : (all : List Seen) (at depth : ℕ) (follows : Bool) (old new : Seen) → follows ≡ true → slice_get all at ≡ Some old → new.name ≡ old.name → new.links ≡ old.links → new.joint ≡ old.joint
    → new.followed.items ≡ slice_set old.followed.items depth true → new.depths.items ≡ old.depths.items → Flags all at follows depth (slice_set all at new)
flag_followed all at depth follows old new is there name links joint one other =
    subst (λ f. Flags all at f depth (slice_set all at new)) (sym is) (flags_set old new true depth name links joint one other all at there)

pub flag_itself : (all : List Seen) (at depth : ℕ) (follows : Bool) (old new : Seen) → follows ≡ false → slice_get all at ≡ Some old → new.name ≡ old.name → new.links ≡ old.links → new.joint ≡ old.joint
    → new.depths.items ≡ slice_set old.depths.items depth true → new.followed.items ≡ old.followed.items → Flags all at follows depth (slice_set all at new)
flag_itself all at depth follows old new is there name links joint one other =
    subst (λ f. Flags all at f depth (slice_set all at new)) (sym is) (flags_set old new false depth name links joint one other all at there)

-- what holds of the flags of both ways
pub each_length : (seen : Seen) (n : ℕ) → length seen.depths.items ≡ n → length seen.followed.items ≡ n → (f : Bool) → length (flags_of seen f) ≡ n
each_length seen n h g true = g
each_length seen n h g false = h

pub each_never : (seen : Seen) → ((d : ℕ) → slice_get seen.depths.items d ≢ Some true) → ((d : ℕ) → slice_get seen.followed.items d ≢ Some true) → (f : Bool) (d : ℕ) → ¬ WasAt seen f d
each_never seen h g true d was = g d was
each_never seen h g false d was = h d was

pub as_many : (old new : Seen) → length new.depths.items ≡ length old.depths.items → length new.followed.items ≡ length old.followed.items → (f : Bool) → length (flags_of new f) ≡ length (flags_of old f)
as_many old new h g true = g
as_many old new h g false = h
