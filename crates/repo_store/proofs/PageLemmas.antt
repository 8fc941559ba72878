use Rattle.std.proofs.Common.{◌≡◌, ◌⊎◌, ◌≤◌, inl, inr, ℕ, Bool, true, false, cond, ◌&&◌, List, [], ◌∷◌, ◌++◌, Option, Some, None, refl, sym, ◌∙◌, ap, subst, filter, is_eq, is_lt, arith}
use Rattle.std.specs.Prelude.{⊤}
use Rattle.std.specs.declared.cmp.Ordering.{Ordering}
use Rattle.std.specs.declared.cmp.Ordering.TheVariants.{Less, Equal, Greater}
use Rattle.std.specs.List.{AllByRecursion}
use Rattle.std.specs.List.Sorted.{IsStrictlySortedBy}
use Rattle.std.specs.Map.{keys_of, lookup}
use Rattle.std.specs.BTreeMap.{BTreeMap, is_at, IsOrdered}
use Rattle.std.specs.BTreeMap.Range.{range_contains}
use Rattle.std.specs.declared.ops.Bound.TheVariants.{Unbounded}
use Rattle.std.proofs.lemmas.Cmp.{tied_itself, nat_list_cmp_total}
use Rattle.repo_name.specs.declared.kinds.Kind.{Kind}
use Rattle.repo_name.specs.declared.names.Name.{Name}
use Rattle.repo_name.specs.NameMaps.{found}
use Rattle.repo_name.specs.Naming.{name_cmp, Before}
use Rattle.repo_name.proofs.NameMaps.{same_name}
use Rattle.repo_store.specs.Pages.{Has, IsPage, Above, NamesAscend, Beyond}
use Rattle.repo_store.specs.Stores.{Objects}
use Rattle.repo_store.specs.Memory.{above, bound_of, IsFirstPart}

-- each name stands before those after it
abbrev Rises : List Name → Type 0
Rises [] = ⊤
Rises (n ∷ ns) = ((m : Name) → Has ns m → Before n m) × Rises ns

all_has : (P : Name → Type 0) (ns : List Name) → AllByRecursion P ns → (m : Name) → Has ns m → P m
all_has P [] h m x = elim x [ ]
all_has P (n ∷ ns) h m (inl e) = subst P (sym e) h.0
all_has P (n ∷ ns) h m (inr k) = all_has P ns h.1 m k

rises : (ns : List Name) → IsStrictlySortedBy name_cmp ns → Rises ns
unfolding IsStrictlySortedBy
rises [] h = tt
rises (n ∷ ns) h = (all_has (λ y. name_cmp n y ≡ Less) ns h.0, rises ns h.1)

-- a list in two parts
pub has_left : (xs ys : List Name) (n : Name) → Has xs n → Has (xs ++ ys) n
has_left [] ys n k = elim k [ ]
has_left (x ∷ xs) ys n (inl e) = inl e
has_left (x ∷ xs) ys n (inr k) = inr (has_left xs ys n k)

pub has_right : (xs ys : List Name) (n : Name) → Has ys n → Has (xs ++ ys) n
has_right [] ys n k = k
has_right (x ∷ xs) ys n k = inr (has_right xs ys n k)

pub has_either : (xs ys : List Name) (n : Name) → Has (xs ++ ys) n → Has xs n ⊎ Has ys n
has_either [] ys n k = inr k
has_either (x ∷ xs) ys n (inl e) = inl (inl e)
has_either (x ∷ xs) ys n (inr k) = further (has_either xs ys n k) where
  further : Has xs n ⊎ Has ys n → Has (x ∷ xs) n ⊎ Has ys n
  further (inl h) = inl (inr h)
  further (inr h) = inr h

rises_left : (xs ys : List Name) → Rises (xs ++ ys) → Rises xs
rises_left [] ys h = tt
rises_left (x ∷ xs) ys h = (λ m k. h.0 m (has_left xs ys m k), rises_left xs ys h.1)

rises_across : (xs ys : List Name) → Rises (xs ++ ys) → (m : Name) → Has ys m → Beyond xs m
rises_across [] ys h m k n j = elim j [ ]
rises_across (x ∷ xs) ys h m k n (inl e) = subst (λ a. Before a m) (sym e) (h.0 m (has_right xs ys m k))
rises_across (x ∷ xs) ys h m k n (inr j) = rises_across xs ys h.1 m k n j

-- a filter of the entries by their names
module _ {X : Type 0} (p : Name → Bool) where
  kept_has : (e : Name × X) (es : List (Name × X)) (n : Name) (b : Bool) → p e.0 ≡ b
      → (Has (keys_of (filter (λ e. p e.0) es)) n → Has (keys_of es) n × (p n ≡ true))
      → Has (keys_of (cond b (e ∷ filter (λ e. p e.0) es) (filter (λ e. p e.0) es))) n → Has (keys_of (e ∷ es)) n × (p n ≡ true)
  kept_has e es n true h r (inl k) = (inl k, ap p k ∙ h)
  kept_has e es n true h r (inr k) = (inr (r k).0, (r k).1)
  kept_has e es n false h r k = (inr (r k).0, (r k).1)

  filtered_has : (es : List (Name × X)) (n : Name) → Has (keys_of (filter (λ e. p e.0) es)) n → Has (keys_of es) n × (p n ≡ true)
  filtered_has [] n k = elim k [ ]
  filtered_has (e ∷ es) n k = kept_has e es n (p e.0) refl (filtered_has es n) k

  keeps_has : (e : Name × X) (es : List (Name × X)) (n : Name) (b : Bool) → p e.0 ≡ b → p n ≡ true
      → (Has (keys_of es) n → Has (keys_of (filter (λ e. p e.0) es)) n)
      → Has (keys_of (e ∷ es)) n → Has (keys_of (cond b (e ∷ filter (λ e. p e.0) es) (filter (λ e. p e.0) es))) n
  keeps_has e es n true h t r (inl k) = inl k
  keeps_has e es n true h t r (inr k) = inr (r k)
  keeps_has e es n false h t r (inl k) = let c : true ≡ false = sym t ∙ ap p k ∙ h in absurd (cc)
  keeps_has e es n false h t r (inr k) = r k

  has_filtered : (es : List (Name × X)) (n : Name) → p n ≡ true → Has (keys_of es) n → Has (keys_of (filter (λ e. p e.0) es)) n
  has_filtered [] n t k = elim k [ ]
  has_filtered (e ∷ es) n t k = keeps_has e es n (p e.0) refl t (has_filtered es n t) k

  kept_rises : (e : Name × X) (es : List (Name × X)) (b : Bool) → ((m : Name) → Has (keys_of (filter (λ e. p e.0) es)) m → Before e.0 m)
      → Rises (keys_of (filter (λ e. p e.0) es)) → Rises (keys_of (cond b (e ∷ filter (λ e. p e.0) es) (filter (λ e. p e.0) es)))
  kept_rises e es true h r = (h, r)
  kept_rises e es false h r = r

  rises_filtered : (es : List (Name × X)) → Rises (keys_of es) → Rises (keys_of (filter (λ e. p e.0) es))
  rises_filtered [] h = tt
  rises_filtered (e ∷ es) h = kept_rises e es (p e.0) (λ m k. h.0 m (filtered_has es m k).0) (rises_filtered es h.1)

-- what is found, and which names there are
itself : (n : Name) → is_eq (name_cmp n n) ≡ true
itself n = ap is_eq (tied_itself nat_list_cmp_total n.0)

found_at : {X : Type 0} (e : Name × X) (es : List (Name × X)) (n : Name) (b : Bool) → is_eq (name_cmp n e.0) ≡ b → (x : X)
    → ((y : X) → lookup (is_at (name_cmp n)) es ≡ Some y → Has (keys_of es) n)
    → cond b (Some e.1) (lookup (is_at (name_cmp n)) es) ≡ Some x → Has (keys_of (e ∷ es)) n
found_at e es n true h x r k = inl (same_name n e.0 h)
found_at e es n false h x r k = inr (r x k)

found_has : {X : Type 0} (es : List (Name × X)) (n : Name) (x : X) → lookup (is_at (name_cmp n)) es ≡ Some x → Has (keys_of es) n
found_has [] n x k = absurd (cc)
found_has (e ∷ es) n x k = found_at e es n (is_eq (name_cmp n e.0)) refl x (found_has es n) k

has_at : {X : Type 0} (e : Name × X) (es : List (Name × X)) (n : Name) (b : Bool) → is_eq (name_cmp n e.0) ≡ b
    → (Has (keys_of es) n → (x : X) × (lookup (is_at (name_cmp n)) es ≡ Some x))
    → Has (keys_of (e ∷ es)) n → (x : X) × (cond b (Some e.1) (lookup (is_at (name_cmp n)) es) ≡ Some x)
has_at e es n true h r k = (e.1, refl)
has_at e es n false h r (inl k) = let c : false ≡ true = sym h ∙ ap (λ m. is_eq (name_cmp n m)) (sym k) ∙ itself n in absurd (cc)
has_at e es n false h r (inr k) = r k

has_found : {X : Type 0} (es : List (Name × X)) (n : Name) → Has (keys_of es) n → (x : X) × (lookup (is_at (name_cmp n)) es ≡ Some x)
has_found [] n k = elim k [ ]
has_found (e ∷ es) n k = has_at e es n (is_eq (name_cmp n e.0)) refl (has_found es n) k

-- the bound
from_is_lt : (o : Ordering) → is_lt o && true ≡ true → o ≡ Less
from_is_lt Less h = refl
from_is_lt Equal h = absurd (cc)
from_is_lt Greater h = absurd (cc)

from_bound : (a : Option Name) (n : Name) → range_contains name_cmp (bound_of a) Unbounded n ≡ true → Above a n
from_bound None n h = tt
from_bound (Some a) n h = from_is_lt (name_cmp a n) h

to_bound : (a : Option Name) (n : Name) → Above a n → range_contains name_cmp (bound_of a) Unbounded n ≡ true
to_bound None n h = refl
to_bound (Some a) n h = ap (λ o. is_lt o && true) h

ascends : (a : Option Name) (ns : List Name) → Rises ns → ((m : Name) → Has ns m → Above a m) → NamesAscend a ns
ascends a [] r h = tt
ascends a (n ∷ ns) r h = (h n (inl refl), ascends (Some n) ns r.1 r.0)

-- a cut of a map's names is a page
module _ {X : Type 0} (O : Objects) (k : Kind) (a : Option Name) (limit : ℕ) (m : BTreeMap Name X) (there : (n : Name) (y : X) → found m n ≡ Some y → (x : List ℕ) × (O k n ≡ Some x))
    (named : (n : Name) (x : List ℕ) → O k n ≡ Some x → (y : X) × (found m n ≡ Some y)) (ordered : IsOrdered name_cmp m) where
  test : Name → Bool
  test n = range_contains name_cmp (bound_of a) Unbounded n

  listed_there : (n : Name) → Has (above a m) n → ((x : List ℕ) × (O k n ≡ Some x)) × Above a n
  listed_there n h =
      let p = filtered_has (λ n. range_contains name_cmp (bound_of a) Unbounded n) m.entries n h in
      let q = has_found m.entries n p.0 in
      (there n q.0 q.1, from_bound a n p.1)

  there_listed : (n : Name) (x : List ℕ) → O k n ≡ Some x → Above a n → Has (above a m) n
  there_listed n x e h =
      has_filtered (λ n. range_contains name_cmp (bound_of a) Unbounded n) m.entries n (to_bound a n h) (found_has m.entries n (named n x e).0 (named n x e).1)

  rising : Rises (above a m)
  rising = rises_filtered (λ n. range_contains name_cmp (bound_of a) Unbounded n) m.entries (rises (keys_of m.entries) ordered)

  cut_least : (names : List Name) (r : Name) (rest : List Name) (more : Bool) → Rises (names ++ r ∷ rest) → more ≡ true → (n : Name)
      → Has names n ⊎ Has (r ∷ rest) n → Has names n ⊎ ((more ≡ true) × Beyond names n)
  cut_least names r rest more up is n (inl h) = inl h
  cut_least names r rest more up is n (inr h) = inr (is, rises_across names (r ∷ rest) up n h)

  pub page_of : (names : List Name) (more : Bool) → IsFirstPart (above a m) limit names more → IsPage O k a limit names more
  page_of names more (inl (all, few, is)) =
      let listed : (n : Name) → Has names n → Has (above a m) n = λ n h. subst (λ l. Has l n) (sym all) h in
      record {
        ascends = ascends a names (subst Rises all rising) (λ n h. (listed_there n (listed n h)).1);
        few = few;
        there = λ n h. (listed_there n (listed n h)).0;
        least = λ n x e h. inl (subst (λ l. Has l n) all (there_listed n x e h));
        follow = λ h. let c : true ≡ false = sym h ∙ is in absurd (cc);
      }
  page_of names more (inr (r, rest, all, long, is)) =
      let listed : (n : Name) → Has names n → Has (above a m) n = λ n h. subst (λ l. Has l n) (sym all) (has_left names (r ∷ rest) n h) in
      let up : Rises (names ++ r ∷ rest) = subst Rises all rising in
      let next : Has (above a m) r = subst (λ l. Has l r) (sym all) (has_right names (r ∷ rest) r (inl refl)) in
      let there = listed_there r next in
      record {
        ascends = ascends a names (rises_left names (r ∷ rest) up) (λ n h. (listed_there n (listed n h)).1);
        few = subst (λ l. l ≤ limit) (sym long) upto;
        there = λ n h. (listed_there n (listed n h)).0;
        least = λ n x e h. cut_least names r rest more up is n (has_either names (r ∷ rest) n (subst (λ l. Has l n) all (there_listed n x e h)));
        follow = λ h. (long, (r, there.0.0, there.0.1, rises_across names (r ∷ rest) up r (inl refl)));
      }
    where
      upto : limit ≤ limit
      upto = omega arith
