-- Items, read one after another.
use Rattle.std.proofs.Common.{◌≡◌, ◌<◌, ◌≤◌, ◌+◌, ◌∷◌, ◌++◌, [], ℕ, suc, List, length, drop, get_or, refl, ap, ◌∙◌, sym, subst, drop-cons, add-one}
use Rattle.std.proofs.lemmas.List.{drop_all}
use Rattle.serde_json.specs.Data.{Data, Items, no_items, item}
use Rattle.serde_json.specs.View.{view, items_view}
use Rattle.serde_json.specs.declared.value.Value.{Value}
use Rattle.repo_json.specs.Listing.{BeginsWith, AreAll, HasFault}

-- what is left begins with the element at its index
pub drop_here : {X : Type 0} → (xs : List X) (i : ℕ) (x : X) → i < length xs → x ≡ get_or xs i x → drop i xs ≡ x ∷ drop (i + 1) xs
drop_here xs i x h is = drop-cons xs i x h ∙ ap (λ y. y ∷ drop (suc i) xs) (sym is) ∙ ap (λ n. x ∷ drop n xs) (sym (add-one i))

pub items_here : (values : List Value) (i : ℕ) (v : Value) → i < length values → v ≡ get_or values i v
    → items_view (drop i values) ≡ item (view v) (items_view (drop (i + 1) values))
items_here values i v h is = ap items_view (drop_here values i v h is)

pub items_end : (values : List Value) (i : ℕ) → length values ≤ i → items_view (drop i values) ≡ no_items
items_end values i h = ap items_view (drop_all i values h)

module _ {X : Type 0} (Is : Data → X → Type 0) where
  -- an element more
  pub begins_push : (items : Items) (xs : List X) (x : X) (d : Data) (rest : Items) → BeginsWith Is items xs (item d rest) → Is d x
      → BeginsWith Is items (xs ++ x ∷ []) rest
  begins_push items [] x d rest h is = subst (λ (i : Items). BeginsWith Is i (x ∷ []) rest) (sym h) (is, refl)
  begins_push no_items (y ∷ xs) x d rest h is = absurd h
  begins_push (item e items) (y ∷ xs) x d rest h is = (h.0, begins_push items xs x d rest h.1 is)

  -- all items are those of elements, so each one is
  pub listed_here : (items : Items) (xs : List X) (d : Data) (rest : Items) (all : List X) → BeginsWith Is items xs (item d rest)
      → AreAll Is items all → (x : X) × Is d x
  listed_here items [] d rest [] h g = cc
  listed_here items [] d rest (x ∷ all) h g =
      let k : BeginsWith Is (item d rest) (x ∷ all) no_items = subst (λ (i : Items). BeginsWith Is i (x ∷ all) no_items) h g in
      (x, k.0)
  listed_here no_items (y ∷ xs) d rest all h g = absurd h
  listed_here (item e items) (y ∷ xs) d rest [] h g = cc
  listed_here (item e items) (y ∷ xs) d rest (x ∷ all) h g = listed_here items xs d rest all h.1 g.1

  -- ---- a loop over values

  -- the next value is that of an element
  pub begins_more : (values : List Value) (i : ℕ) (v : Value) (xs : List X) (x : X) → i < length values → v ≡ get_or values i v
      → BeginsWith Is (items_view values) xs (items_view (drop i values)) → Is (view v) x
      → BeginsWith Is (items_view values) (xs ++ x ∷ []) (items_view (drop (i + 1) values))
  begins_more values i v xs x lt at begins is =
      begins_push (items_view values) xs x (view v) (items_view (drop (i + 1) values))
      (subst (λ (r : Items). BeginsWith Is (items_view values) xs r) (items_here values i v lt at) begins) is

  -- no value is left
  pub begins_end : (values : List Value) (i : ℕ) (xs : List X) → length values ≤ i
      → BeginsWith Is (items_view values) xs (items_view (drop i values)) → AreAll Is (items_view values) xs
  begins_end values i xs ge begins = subst (λ (r : Items). BeginsWith Is (items_view values) xs r) (items_end values i ge) begins

  -- the next value is at fault
  pub fault_here : (Fault : Data → Type 0) (values : List Value) (i : ℕ) (v : Value) (xs : List X) → i < length values → v ≡ get_or values i v
      → BeginsWith Is (items_view values) xs (items_view (drop i values)) → Fault (view v) → HasFault Is Fault (items_view values)
  fault_here Fault values i v xs lt at begins fault = record {
    before = xs;
    here = view v;
    rest = items_view (drop (i + 1) values);
    begins = subst (λ (r : Items). BeginsWith Is (items_view values) xs r) (items_here values i v lt at) begins;
    fault = fault;
  }
