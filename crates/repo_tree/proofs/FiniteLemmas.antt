-- Parts without a fault come to an end: their names ascend, and there are only so many trees.
use Rattle.std.specs.Prelude.{cond}
use Rattle.std.proofs.Common.{◌≡◌, ◌≢◌, ◌⊎◌, inl, inr, ◌<◌, ◌≤◌, ◌+◌, ◌++◌, ◌∷◌, [], ℕ, zero, suc, Bool, true, false, List, Option, Some, None, refl, sym, ap, subst, ◌∙◌, append_assoc, arith}
use Rattle.std.proofs.lemmas.Option.{none-some, same_Some}
use Rattle.std.specs.Ordering.{nat_cmp, is_lt}
use Rattle.std.specs.declared.cmp.Ordering.{Ordering}
use Rattle.std.specs.Cmp.Lexicographic.{slice_cmp, nat_list_cmp_total}
use Rattle.std.specs.Cmp.{tied_itself}
use Rattle.repo_name.specs.declared.names.Name.{Name}
use Rattle.repo_tree.specs.Parts.{Blobs, IsPart, IsInParts, GoesOn}
use Rattle.repo_tree.specs.TreeText.{AreInOrder, last_name}
use Rattle.repo_tree.specs.declared.nodes.Node.{Node}
use Rattle.repo_tree.proofs.OnwardLemmas.{joined, Onward, AreLaterFull, onward_push, onward_goes, onward_end, full_push, joined_push, order_join}

-- ---- how many names are above one

abbrev above : Option (List ℕ) → List ℕ → Bool
above None x = true
above (Some a) x = is_lt (slice_cmp nat_cmp a x)

abbrev count_above : Option (List ℕ) → List (List ℕ) → ℕ
count_above a [] = 0
count_above a (x ∷ xs) = cond (above a x) (count_above a xs + 1) (count_above a xs)

-- it is one of these
abbrev pub HasName : List (List ℕ) → List ℕ → Type 0
HasName [] y = ⊥
HasName (x ∷ xs) y = (x ≡ y) ⊎ HasName xs y

false_true : false ≡ true → ⊥
false_true e = absurd (cc)

count_step : (p q : Bool) → (p ≡ true → q ≡ true) → (m n : ℕ) → m ≤ n → cond p (m + 1) m ≤ cond q (n + 1) n
count_step true true h m n l = omega (arith, l)
count_step true false h m n l = absurd (false_true (h refl))
count_step false true h m n l = omega (arith, l)
count_step false false h m n l = l

less_step : (p q : Bool) → (p ≡ true → q ≡ true) → (m n : ℕ) → m < n → cond p (m + 1) m < cond q (n + 1) n
less_step true true h m n l = omega (arith, l)
less_step true false h m n l = absurd (false_true (h refl))
less_step false true h m n l = omega (arith, l)
less_step false false h m n l = l

less_here : (p q : Bool) → p ≡ false → q ≡ true → (m n : ℕ) → m ≤ n → cond p (m + 1) m < cond q (n + 1) n
less_here true q e f m n l = absurd (false_true (sym e))
less_here false true e f m n l = omega (arith, l)
less_here false false e f m n l = absurd (false_true f)

module _ (a b : Option (List ℕ)) (h : (x : List ℕ) → above b x ≡ true → above a x ≡ true) where
  no_more : (xs : List (List ℕ)) → count_above b xs ≤ count_above a xs
  no_more [] = omega arith
  no_more (x ∷ xs) = count_step (above b x) (above a x) (h x) (count_above b xs) (count_above a xs) (no_more xs)

  fewer : (xs : List (List ℕ)) (y : List ℕ) → HasName xs y → above a y ≡ true → above b y ≡ false → count_above b xs < count_above a xs
  fewer [] y has is_so is_not = absurd has
  fewer (x ∷ xs) y (inl e) is_so is_not = less_here (above b x) (above a x) (ap (above b) e ∙ is_not) (ap (above a) e ∙ is_so) (count_above b xs) (count_above a xs) (no_more xs)
  fewer (x ∷ xs) y (inr has) is_so is_not = less_step (above b x) (above a x) (h x) (count_above b xs) (count_above a xs) (fewer xs y has is_so is_not)

-- ---- names ascend

lt_less : (o : Ordering) → is_lt o ≡ true → o ≡ Ordering.Less
lt_less Ordering.Less h = refl
lt_less Ordering.Equal h = absurd (false_true h)
lt_less Ordering.Greater h = absurd (false_true h)

above_on : (o : Option (List ℕ)) (b : List ℕ) → ((a : List ℕ) → o ≡ Some a → slice_cmp nat_cmp a b ≡ Ordering.Less) → (x : List ℕ) → above (Some b) x ≡ true → above o x ≡ true
above_on None b h x lt = refl
above_on (Some a) b h x lt = ap is_lt (nat_list_cmp_total.trans a b x (h a refl) (lt_less (slice_cmp nat_cmp b x) lt))

above_it : (o : Option (List ℕ)) (b : List ℕ) → ((a : List ℕ) → o ≡ Some a → slice_cmp nat_cmp a b ≡ Ordering.Less) → above o b ≡ true
above_it None b h = refl
above_it (Some a) b h = ap is_lt (h a refl)

not_itself : (b : List ℕ) → above (Some b) b ≡ false
not_itself b = ap is_lt (tied_itself nat_list_cmp_total b)

last_some : (nodes : List Node) → nodes ≢ [] → (b : List ℕ) × (last_name nodes ≡ Some b)
last_some [] h = absurd (h refl)
last_some (n ∷ []) h = (n.name, refl)
last_some (n ∷ m ∷ nodes) h = last_some (m ∷ nodes) (λ e. absurd (cc))

-- from a name below the first on
far : (a : List ℕ) (m : Node) (ms : List Node) → slice_cmp nat_cmp a m.name ≡ Ordering.Less → AreInOrder (m ∷ ms) → (b : List ℕ) → last_name (m ∷ ms) ≡ Some b → slice_cmp nat_cmp a b ≡ Ordering.Less
far a m [] lt o b e = subst (λ x. slice_cmp nat_cmp a x ≡ Ordering.Less) (same_Some m.name b e) lt
far a m (k ∷ ms) lt o b e = far a k ms (nat_list_cmp_total.trans a m.name k.name lt o.1) o.2 b e

order_right : (ns ms : List Node) → AreInOrder (ns ++ ms) → AreInOrder ms
order_right [] ms h = h
order_right (n ∷ ns) ms h = order_right ns ms h.2

-- the last name of some nodes is below that of those behind them
last_below : (ns ms : List Node) → ms ≢ [] → AreInOrder (ns ++ ms) → (a b : List ℕ) → last_name ns ≡ Some a → last_name ms ≡ Some b → slice_cmp nat_cmp a b ≡ Ordering.Less
last_below ns [] some o a b la lb = absurd (some refl)
last_below [] (m ∷ ms) some o a b la lb = absurd (none-some a la)
last_below (n ∷ []) (m ∷ ms) some o a b la lb = subst (λ x. slice_cmp nat_cmp x b ≡ Ordering.Less) (same_Some n.name a la) (far n.name m ms o.1 o.2 b lb)
last_below (n ∷ k ∷ ns) (m ∷ ms) some o a b la lb = last_below (k ∷ ns) (m ∷ ms) some o.2 a b la lb

-- ---- a chain of which each part is there and goes on rightly

later_full : (parts : List (List Node)) (nodes : List Node) → AreLaterFull parts → (parts ≢ [] → nodes ≢ []) → AreLaterFull (parts ++ nodes ∷ [])
later_full [] nodes h some = tt
later_full (first ∷ more) nodes h some = full_push more nodes h (some (λ e. absurd (cc)))

order_next : (parts : List (List Node)) (nodes more : List Node) → (parts ≢ [] → nodes ≢ []) → AreInOrder (joined parts ++ nodes) → AreInOrder (nodes ++ more) → AreInOrder (joined parts ++ (nodes ++ more))
order_next [] nodes more some h g = g
order_next (first ∷ rest) nodes more some h g = order_join (joined (first ∷ rest)) nodes more (some (λ e. absurd (cc))) h g

module _ (B : Blobs) (t : Name) (known : List (List ℕ))
    (there : (p : Name) → ((through : List Name) × GoesOn B t through p) → (nodes : List Node) × (next : Option Name) × IsPart B p nodes next × ((last : List ℕ) → last_name nodes ≡ Some last → HasName known last))
    (right : (p n : Name) (nodes more : List Node) (next : Option Name) → ((through : List Name) × GoesOn B t through p) → IsPart B p nodes (Some n) → IsPart B n more next → (more ≢ []) × AreInOrder (nodes ++ more)) where
  go : (fuel : ℕ) (parts : List (List Node)) (p : Name) (nodes : List Node) (next : Option Name) → Onward B t parts p → AreLaterFull parts → (parts ≢ [] → nodes ≢ []) → IsPart B p nodes next
      → AreInOrder (joined parts ++ nodes) → count_above (last_name nodes) known < fuel → (all : List Node) × IsInParts B t all
  go zero parts p nodes next on full some part ordered few = absurd (omega (arith, few))
  go (suc fuel) parts p nodes None on full some part ordered few = (joined parts ++ nodes, onward_end B t p parts nodes on full part some ordered)
  go (suc fuel) parts p nodes (Some n) on full some part ordered few =
      let onward = onward_push B t p n parts nodes on part in
      let s = there n (onward_goes B t n (parts ++ nodes ∷ []) onward) in
      let r = right p n nodes s.0 s.1 (onward_goes B t p parts on) part s.2 in
      let last = last_some s.0 r.0 in
      let below : (a : List ℕ) → last_name nodes ≡ Some a → slice_cmp nat_cmp a last.0 ≡ Ordering.Less = λ a e. last_below nodes s.0 r.0 r.1 a last.0 e last.1 in
      let less : count_above (Some last.0) known < count_above (last_name nodes) known = fewer (last_name nodes) (Some last.0) (above_on (last_name nodes) last.0 below) known last.0 (s.3 last.0 last.1) (above_it (last_name nodes) last.0 below) (not_itself last.0) in
      let fewer_left : count_above (last_name s.0) known < fuel = subst (λ o. count_above o known < fuel) (sym last.1) (omega (arith, less, few)) in
      let order : AreInOrder (joined (parts ++ nodes ∷ []) ++ s.0) = subst (λ ns. AreInOrder (ns ++ s.0)) (sym (joined_push parts nodes)) (subst AreInOrder (sym (append_assoc (joined parts) nodes s.0)) (order_next parts nodes s.0 some ordered r.1)) in
      go fuel (parts ++ nodes ∷ []) n s.0 s.1 onward (later_full parts nodes full some) (λ e. r.0) s.2 order fewer_left

  -- it is that of a directory
  pub chain_is_whole : (nodes : List Node) × IsInParts B t nodes
  chain_is_whole =
      let s = there t ([], refl) in
      go (count_above (last_name s.0) known + 1) [] t s.0 s.1 refl tt (λ some. absurd (some refl)) s.2 s.2.reads.tree.ordered (omega arith)
