-- Where visits stand in an index.
use Rattle.std.proofs.Common.{arith, ◌≡◌, ◌<◌, ◌⊎◌, ◌++◌, ◌∷◌, [], ℕ, zero, suc, Bool, true, false, List, length, take, slice_get, Some, None, refl, sym, ap, subst, inl, inr, ⊎_elim, ◌∙◌, Contains}
use Rattle.std.specs.Prelude.{Result, Ok, Err, OnOk, OnErr, slice_set}
use Rattle.std.specs.BTreeMap.{BTreeMap}
use Rattle.std.proofs.lemmas.Option.{same_Some, none-some}
use Rattle.std.proofs.lemmas.List.Elements.{Contains-append_right}
use Rattle.repo_name.specs.NameMaps.{found, Inserted}
use Rattle.repo_name.specs.declared.names.Name.{Name}
use Rattle.repo_name.proofs.Containing.{contains_got, stands_at, first_contained, contained_or, none_contained}
use Rattle.repo_reach.proofs.Flagging.{get_set, set_on}
use Rattle.repo_reach.proofs.Rewinding.{got_or}
use Rattle.repo_check.specs.Visiting.{AddsVisit}
use Rattle.repo_check.specs.inner.Placing.{GivesPlace, HasMaps, IsIndexed, KeepsPlaces, SaysPlace, slot_by, slot_of}
use Rattle.repo_check.specs.declared.visiting.Visit.{Visit}

-- ---- a place is put

abbrev pub Index : Type 0
Index = List (BTreeMap Name ℕ)

same_after : {T E : Type 0} (r : Result T E) (n : Name) (place : ℕ) (map now : BTreeMap Name ℕ) → OnOk r (Inserted (found map) n place (found now)) → OnErr r (found now ≡ found map) → (m : Name) → (found now m ≡ found map m) ⊎ (m ≡ n)
same_after (Ok x) n place map now h g m = ⊎_elim inr inl (h.others m)
same_after (Err e) n place map now h g m = inl (ap (λ f. f m) g)

pub places_kept : {T E : Type 0} (r : Result T E) (old : Index) (slot : ℕ) (n : Name) (place : ℕ) (map now : BTreeMap Name ℕ) → slice_get old slot ≡ Some map → OnOk r (Inserted (found map) n place (found now)) → OnErr r (found now ≡ found map)
    → KeepsPlaces old slot n (slice_set old slot now)
places_kept r old slot n place map now there ok err i before at = ⊎_elim
    (λ g.
    let one : map ≡ before = same_Some map before (sym there ∙ ap (λ j. slice_get old j) (sym g.0) ∙ at) in
    (now, g.1, λ m. ⊎_elim (λ e. inl (e ∙ ap (λ (b : BTreeMap Name ℕ). found b m) one)) (λ e. inr (g.0, e)) (same_after r n place map now ok err m)))
    (λ g. (before, g, λ m. inl refl))
    (set_on old slot now i before at)

pub place_put : {T E : Type 0} (r : Result T E) (old : Index) (slot : ℕ) (n : Name) (place : ℕ) (map now : BTreeMap Name ℕ) → OnOk r (Inserted (found map) n place (found now)) → OnOk r (slot < length old → GivesPlace (slice_set old slot now) slot n place)
place_put (Ok x) old slot n place map now h = λ less. (now, get_set old slot now less, h.here)
place_put (Err e) old slot n place map now h = tt

-- ---- visits that have one slot

slot_same : (f g : Bool) (d e : ℕ) → slot_by f d ≡ slot_by g e → (f ≡ g) × (d ≡ e)
slot_same true true d e h = (refl, omega (arith, h))
slot_same true false d e h = absurd (omega (arith, h))
slot_same false true d e h = absurd (omega (arith, h))
slot_same false false d e h = (refl, omega (arith, h))

slot_one : (v w : Visit) → slot_of v ≡ slot_of w → v.tree ≡ w.tree → v ≡ w
slot_one v w h tree =
    let s = slot_same v.follows w.follows v.depth w.depth h in
    λ i. record { tree = tree i; follows = s.0 i; depth = s.1 i }

-- ---- one visit more

module _ (index mid new : Index) (visits : List Visit) (v : Visit) (is : IsIndexed index visits) (fresh : Contains visits v → ⊥) (maps : HasMaps index mid) (kept : KeepsPlaces mid (slot_of v) v.tree new) where
  pub index_kept : IsIndexed new visits
  index_kept i w at =
      let was = is i w at in
      let now = kept (slot_of w) was.0 (maps (slot_of w) was.0 was.1) in
      (now.0, now.1, ⊎_elim (λ e. e ∙ was.2) (λ same. absurd (fresh (subst (λ u. Contains visits u) (slot_one w v same.0 same.1) (contains_got visits i w at)))) (now.2 w.tree))

  pub index_added : GivesPlace new (slot_of v) v.tree (length visits) → IsIndexed new (visits ++ v ∷ [])
  index_added put i w at = ⊎_elim
      (λ there. index_kept i w there)
      (λ last. (let P : Visit → ℕ → Type 0 = λ u j. (map : BTreeMap Name ℕ) × (slice_get new (slot_of u) ≡ Some map) × (found map u.tree ≡ Some j) in subst (λ j. P w j) (sym last.0) (subst (λ u. P u (length visits)) last.1 put)))
      (got_or visits v i w at)

pub maps_kept : (index mid : Index) (visits : List Visit) → IsIndexed index visits → HasMaps index mid → IsIndexed mid visits
maps_kept index mid visits is maps i w at = let was = is i w at in (was.0, maps (slot_of w) was.0 was.1, was.2)

-- ---- fewer

pub taken_got : {X : Type 0} (xs : List X) (k d : ℕ) (x : X) → slice_get (take k xs) d ≡ Some x → slice_get xs d ≡ Some x
taken_got xs zero d x h = absurd (cc h)
taken_got [] (suc k) d x h = absurd (cc h)
taken_got (y ∷ xs) (suc k) zero x h = h
taken_got (y ∷ xs) (suc k) (suc d) x h = taken_got xs k d x h

pub index_taken : (index : Index) (visits : List Visit) (k : ℕ) → IsIndexed index visits → IsIndexed index (take k visits)
index_taken index visits k is i v at = is i v (taken_got visits k i v at)

-- ---- whether a visit is among them

pub not_placed : (index : Index) (visits : List Visit) (v : Visit) → IsIndexed index visits → SaysPlace index v None → Contains visits v → ⊥
not_placed index visits v is says c =
    let at = stands_at visits v c in
    let was = is at.0 v at.1 in
    none-some at.0 (says was.0 was.1 ∙ was.2)

pub placed_at : (index : Index) (visits : List Visit) (v : Visit) (place : ℕ) → IsIndexed index visits → SaysPlace index v (Some place) → Contains visits v → slice_get visits place ≡ Some v
placed_at index visits v place is says c =
    let at = stands_at visits v c in
    let was = is at.0 v at.1 in
    ap (λ i. slice_get visits i) (same_Some place at.0 (says was.0 was.1 ∙ was.2)) ∙ at.1

-- ---- what came

pub among_added : (visits : List Visit) (v : Visit) → AddsVisit visits v (visits ++ v ∷ [])
among_added visits v = ((v ∷ [], refl, λ w c. ⊎_elim (λ same. same) (λ none. absurd (none_contained w none)) (contained_or v [] w c)), Contains-append_right visits (v ∷ []) v (first_contained v []))

-- ---- what a call left

pub after_push : {T E : Type 0} (r : Result T E) (index : Index) (visits now : List Visit) (v : Visit) → OnOk r (now ≡ visits ++ v ∷ []) → OnErr r (now ≡ visits) → IsIndexed index visits → IsIndexed index (visits ++ v ∷ []) → IsIndexed index now
after_push (Ok x) index visits now v ok err kept added = subst (λ vs. IsIndexed index vs) (sym ok) added
after_push (Err e) index visits now v ok err kept added = subst (λ vs. IsIndexed index vs) (sym err) kept

pub pushed : {T E : Type 0} (r : Result T E) (visits now : List Visit) (v : Visit) → OnOk r (now ≡ visits ++ v ∷ []) → OnOk r (AddsVisit visits v now)
pushed (Ok x) visits now v h = subst (λ vs. AddsVisit visits v vs) (sym h) (among_added visits v)
pushed (Err e) visits now v h = tt
