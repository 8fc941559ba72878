-- Room for large frames.
use Rattle.std.proofs.Common.{arith, ◌≡◌, ◌≤◌, ◌<◌, ◌+◌, ◌-◌, ◌++◌, ◌∷◌, [], ℕ, zero, suc, Bool, true, false, List, Some, None, length, get_or, take, slice_get, slice_set, if◌then◌else◌, eqb, leb, ltb, not, refl, sym, subst, ap, inl, inr, ◌∙◌, ◌&&◌, ◌||◌}
use Rattle.std.proofs.lemmas.List.{length-append}
use Rattle.std.specs.List.{remove}
use Rattle.repo_many.specs.declared.large_frames.LargeFrame.{LargeFrame}
use Rattle.repo_many.specs.Rooms.{AreBounded, given_to, begun, index_of, is_slow, next_minute, queued, room_of}

-- a place stands behind all at most
pub index_within : (fs : List LargeFrame) (p : ℕ) → index_of fs p ≤ length fs
index_within [] p = omega arith
index_within (f ∷ fs) p = within (eqb f.place p) (index_within fs p) where
  within : (b : Bool) → index_of fs p ≤ length fs → (if b then 0 else (1 + index_of fs p)) ≤ length (f ∷ fs)
  within true h = omega arith
  within false h = omega (arith, h)

eqb_same : (n : ℕ) → eqb n n ≡ true
eqb_same n = grind arith

-- a frame that comes behind others of which none is of its place stands there
pub index_behind : (fs : List LargeFrame) (f : LargeFrame) → length fs ≤ index_of fs f.place → index_of (fs ++ f ∷ []) f.place ≡ length fs
index_behind [] f h = rw (eqb_same f.place)
index_behind (g ∷ fs) f h = behind (eqb g.place f.place) (index_behind fs f) h where
  behind : (b : Bool) → (length fs ≤ index_of fs f.place → index_of (fs ++ f ∷ []) f.place ≡ length fs) → length (g ∷ fs) ≤ (if b then 0 else (1 + index_of fs f.place))
      → (if b then 0 else (1 + index_of (fs ++ f ∷ []) f.place)) ≡ length (g ∷ fs)
  behind true more h = absurd (omega (arith, h))
  behind false more h = let e = more (omega (arith, h)) in omega (arith, e)

-- the first ones of a list that grows at its end
take_front : (n : ℕ) (fs : List LargeFrame) (f : LargeFrame) → n ≤ length fs → take n (fs ++ f ∷ []) ≡ take n fs
take_front zero fs f h = refl
take_front (suc n) [] f h = absurd (omega (arith, h))
take_front (suc n) (g ∷ fs) f h = ap (λ x. g ∷ x) (take_front n fs f (omega (arith, h)))

-- who waits behind others takes no room from them
behind_bounded : (limit given : ℕ) (fs : List LargeFrame) (f : LargeFrame) → AreBounded limit fs given → AreBounded limit (fs ++ f ∷ []) given
behind_bounded limit given fs f (within, inl few) = (let l = length-append fs (f ∷ []) in omega (arith, within, l), inl few)
behind_bounded limit given fs f (within, inr room) = (let l = length-append fs (f ∷ []) in omega (arith, within, l), inr (rw (take_front given fs f within) room))

pub queued_bounded : (limit given : ℕ) (fs : List LargeFrame) (f : LargeFrame) → AreBounded limit fs given → AreBounded limit (queued fs f) given
queued_bounded limit given fs f bounded = by_test (ltb (index_of fs f.place) (length fs)) where
  by_test : (b : Bool) → AreBounded limit (if b then fs else (fs ++ f ∷ [])) given
  by_test true = bounded
  by_test false = behind_bounded limit given fs f bounded

-- the first that waits gets room within the bound
pub given_bounded : (limit given index : ℕ) (fs : List LargeFrame) → index < length fs → AreBounded limit fs given → AreBounded limit fs (given_to limit fs given index)
given_bounded limit given index fs less bounded = by_first (eqb index given) (eqb index 0) (leb (room_of (take (index + 1) fs)) limit) refl refl where
  by_first : (same first fits : Bool) → first ≡ eqb index 0 → fits ≡ leb (room_of (take (index + 1) fs)) limit → AreBounded limit fs (if same && (first || fits) then (index + 1) else given)
  by_first false first fits is so = bounded
  by_first true true fits is so = (omega (arith, less), inl (let z : index ≡ 0 = grind (arith, is) in omega (arith, z)))
  by_first true false true is so = (omega (arith, less), inr (grind (arith, so)))
  by_first true false false is so = bounded

-- ---- changes of one frame

set_length : (fs : List LargeFrame) (i : ℕ) (g : LargeFrame) → length (slice_set fs i g) ≡ length fs
set_length [] zero g = refl
set_length [] (suc i) g = refl
set_length (x ∷ fs) zero g = refl
set_length (x ∷ fs) (suc i) g = ap suc (set_length fs i g)

set_room : (n i : ℕ) (fs : List LargeFrame) (f g : LargeFrame) → slice_get fs i ≡ Some f → g.bytes ≡ f.bytes → room_of (take n (slice_set fs i g)) ≡ room_of (take n fs)
set_room zero i fs f g at same = refl
set_room (suc n) zero [] f g at same = absurd (cc at)
set_room (suc n) (suc i) [] f g at same = absurd (cc at)
set_room (suc n) zero (x ∷ fs) f g at same = let e : x ≡ f = cc at in ap (λ b. b + room_of (take n fs)) (same ∙ ap (λ (y : LargeFrame). y.bytes) (sym e))
set_room (suc n) (suc i) (x ∷ fs) f g at same = ap (λ r. x.bytes + r) (set_room n i fs f g at same)

-- a frame that changes, and takes as much room as before
pub set_bounded : (limit given i : ℕ) (fs : List LargeFrame) (f g : LargeFrame) → slice_get fs i ≡ Some f → g.bytes ≡ f.bytes → AreBounded limit fs given → AreBounded limit (slice_set fs i g) given
set_bounded limit given i fs f g at same (within, inl few) = (rw set_length within, inl few)
set_bounded limit given i fs f g at same (within, inr room) = (rw set_length within, inr (rw (set_room given i fs f g at same) room))

-- ---- a frame that leaves

removed_less : (n i : ℕ) (fs : List LargeFrame) → room_of (take n (remove fs i)) ≤ room_of (take (suc n) fs)
removed_less zero i fs = omega arith
removed_less (suc n) zero [] = omega arith
removed_less (suc n) (suc i) [] = omega arith
removed_less (suc n) zero (x ∷ fs) = omega arith
removed_less (suc n) (suc i) (x ∷ fs) = let h = removed_less n i fs in omega (arith, h)

removed_same : (n i : ℕ) (fs : List LargeFrame) → n ≤ i → take n (remove fs i) ≡ take n fs
removed_same zero i fs h = refl
removed_same (suc n) zero [] h = refl
removed_same (suc n) (suc i) [] h = refl
removed_same (suc n) zero (x ∷ fs) h = absurd (omega (arith, h))
removed_same (suc n) (suc i) (x ∷ fs) h = ap (λ r. x ∷ r) (removed_same n i fs (omega (arith, h)))

removed_length : (i : ℕ) (fs : List LargeFrame) → i < length fs → length (remove fs i) + 1 ≡ length fs
removed_length i [] h = absurd (omega (arith, h))
removed_length zero (x ∷ fs) h = omega arith
removed_length (suc i) (x ∷ fs) h = let e = removed_length i fs (omega (arith, h)) in omega (arith, e)

-- one that has room leaves
pub left_bounded : (limit given i : ℕ) (fs : List LargeFrame) → i < length fs → i < given → AreBounded limit fs given → AreBounded limit (remove fs i) (given - 1)
left_bounded limit zero i fs there less bounded = absurd (omega (arith, less))
left_bounded limit (suc n) i fs there less bounded =
    let e : n ≡ suc n - 1 = omega arith in
    subst (λ (m : ℕ). AreBounded limit (remove fs i) m) e (by_room bounded) where
      by_room : AreBounded limit fs (suc n) → AreBounded limit (remove fs i) n
      by_room (within, inl few) = (let l = removed_length i fs there in omega (arith, within, l), inl (omega (arith, few)))
      by_room (within, inr room) = (let l = removed_length i fs there in omega (arith, within, l), inr (let h = removed_less n i fs in omega (arith, h, room)))

-- one that waits leaves
pub gone_bounded : (limit given i : ℕ) (fs : List LargeFrame) → given ≤ i → i < length fs → AreBounded limit fs given → AreBounded limit (remove fs i) given
gone_bounded limit given i fs far less (within, inl few) = (let l = removed_length i fs less in omega (arith, far, less, l), inl few)
gone_bounded limit given i fs far less (within, inr room) = (let l = removed_length i fs less in omega (arith, far, less, l), inr (rw (removed_same given i fs far) room))

-- a frame takes as much room in its next minute
pub minute_room : (free : Bool) (time : ℕ) (f : LargeFrame) → (next_minute free time f).bytes ≡ f.bytes
minute_room free time f = by_test (not (is_slow free time f) && (free || leb 60000000000 (time - f.since))) where
  by_test : (b : Bool) → (if b then begun time f else f).bytes ≡ f.bytes
  by_test true = refl
  by_test false = refl

-- ---- what stands at an index

pub at_index : (fs : List LargeFrame) (i : ℕ) (f : LargeFrame) → i < length fs → f ≡ get_or fs i f → slice_get fs i ≡ Some f
at_index [] i f less e = absurd (omega (arith, less))
at_index (x ∷ fs) zero f less e = ap Some (sym e)
at_index (x ∷ fs) (suc i) f less e = at_index fs i f (omega (arith, less)) e

pub beyond : (fs : List LargeFrame) (i : ℕ) → length fs ≤ i → slice_get fs i ≡ None
beyond [] i far = refl
beyond (x ∷ fs) zero far = absurd (omega (arith, far))
beyond (x ∷ fs) (suc i) far = beyond fs i (omega (arith, far))

-- a frame is of the same place in its next minute
pub minute_place : (free : Bool) (time : ℕ) (f : LargeFrame) → (next_minute free time f).place ≡ f.place
minute_place free time f = by_test (not (is_slow free time f) && (free || leb 60000000000 (time - f.since))) where
  by_test : (b : Bool) → (if b then begun time f else f).place ≡ f.place
  by_test true = refl
  by_test false = refl
