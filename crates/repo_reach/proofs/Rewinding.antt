-- A walk that begins anew, and a tree that is taken back.
use Rattle.std.proofs.Common.{arith, zero, suc, ◌≡◌, ◌⊎◌, ◌++◌, ◌∷◌, [], ℕ, List, Some, None, slice_get, slice_set, take, drop, length, refl, sym, ap, subst, inl, inr, ⊎_elim, ◌∙◌, Contains}
use Rattle.std.proofs.lemmas.Option.{same_Some, none-some, slice_get_within}
use Rattle.repo_name.specs.NameMaps.{found}
use Rattle.repo_name.specs.declared.names.Name.{Name}
use Rattle.repo_name.proofs.Containing.{none_contained}
use Rattle.repo_reach.specs.Walks.{IsWalk, StandsAt, NoneLooked, AreSeen, IsSameTree, AreSameTrees, IsSameWalk, Rewinds, Adds, Drops}
use Rattle.repo_reach.specs.declared.trees.Trees.{Trees}
use Rattle.repo_reach.specs.declared.looks.Seen.{Seen}
use Rattle.repo_reach.proofs.Flagging.{set_back, set_on, same_tree}
use Rattle.repo_reach.proofs.Steps.{seen_on, stands_on}

-- ---- the same trees

tree_then : (a b c : Seen) → IsSameTree a b → IsSameTree b c → IsSameTree a c
tree_then a b c h g = record { name = g.name ∙ h.name; links = g.links ∙ h.links; joint = g.joint ∙ h.joint; flags = λ f. g.flags f ∙ h.flags f }

pub trees_then : (xs ys zs : List Seen) → AreSameTrees xs ys → AreSameTrees ys zs → AreSameTrees xs zs
trees_then xs ys zs h g = record {
  back = λ i s there. let b = g.back i s there in let a = h.back i b.0 b.1 in (a.0, a.1, tree_then a.0 b.0 s a.2 b.2);
  on = λ i s there. let b = h.on i s there in let a = g.on i b.0 b.1 in (a.0, a.1, tree_then s b.0 a.0 b.2 a.2);
}

pub walk_then : (a b c : Trees) → IsSameWalk a b → IsSameWalk b c → IsSameWalk a c
walk_then a b c h g = record { trees = trees_then a.seen.items b.seen.items c.seen.items h.trees g.trees; places = g.places ∙ h.places; roots = g.roots ∙ h.roots }

pub one_same : (all : List Seen) (i : ℕ) (old new : Seen) → slice_get all i ≡ Some old → IsSameTree old new → AreSameTrees all (slice_set all i new)
one_same all i old new there same = record {
  back = λ j s h. ⊎_elim (λ g. (old, ap (λ k. slice_get all k) g.0 ∙ there, subst (λ z. IsSameTree old z) (sym g.1) same)) (λ g. (s, g, same_tree s)) (set_back all i new j s h);
  on = λ j s h. ⊎_elim (λ g. (new, g.1, subst (λ z. IsSameTree z new) (same_Some old s (sym there ∙ ap (λ k. slice_get all k) (sym g.0) ∙ h)) same)) (λ g. (s, g, same_tree s)) (set_on all i new j s h);
}

-- a list put back whole
pub put_back : {X : Type 0} (xs ys : List X) (n : ℕ) → length xs ≡ n → length ys ≡ n → take n (xs ++ drop (length xs) ys) ≡ xs
put_back [] [] zero h g = refl
put_back [] (y ∷ ys) zero h g = absurd (omega (arith, g))
put_back [] ys (suc n) h g = absurd (omega (arith, h))
put_back (x ∷ xs) ys zero h g = absurd (omega (arith, h))
put_back (x ∷ xs) [] (suc n) h g = absurd (omega (arith, g))
put_back (x ∷ xs) (y ∷ ys) (suc n) h g = ap (λ zs. x ∷ zs) (put_back xs ys n (omega (arith, h)) (omega (arith, g)))

-- ---- a walk that begins anew

pub anew : (texts : List (List ℕ)) (d : Trees) → AreSeen texts d.seen.items → ((n : Name) → StandsAt d.seen.items n (found d.places n)) → NoneLooked d.seen.items
    → d.waiting.items ≡ [] → d.root ≡ 0 → IsWalk texts d
anew texts d seen places never waiting root = record {
  seen = seen;
  places = places;
  met = record {
    begun = λ i n few h. absurd (omega (arith, few, root));
    below = λ i s links f depth n there read was few among. absurd (never i s f depth there was);
    onward = λ i s f depth n there goes was. absurd (never i s f depth there was);
    looked = λ i s f depth there was. absurd (never i s f depth there was);
    to_look = λ v among. absurd (none_contained v (subst (λ vs. Contains vs v) waiting among));
  };
}

pub rewound : (texts : List (List ℕ)) (c d : Trees) → IsWalk texts c → Rewinds c d → IsWalk texts d
rewound texts c d w r = anew texts d (seen_on texts c.seen.items d.seen.items r.trees w.seen)
    (λ n. stands_on c.seen.items d.seen.items n (found d.places n) r.trees (subst (λ p. StandsAt c.seen.items n (found p n)) (sym r.places) (w.places n)))
    r.never r.waiting r.root

-- ---- the last one of a list

pub got_left : {X : Type 0} (xs ys : List X) (i : ℕ) (x : X) → slice_get xs i ≡ Some x → slice_get (xs ++ ys) i ≡ Some x
got_left [] ys i x h = absurd (none-some x h)
got_left (y ∷ xs) ys zero x h = h
got_left (y ∷ xs) ys (suc i) x h = got_left xs ys i x h

pub got_last : {X : Type 0} (xs : List X) (x : X) → slice_get (xs ++ x ∷ []) (length xs) ≡ Some x
got_last [] x = refl
got_last (y ∷ xs) x = got_last xs x

pub got_or : {X : Type 0} (xs : List X) (y : X) (i : ℕ) (x : X) → slice_get (xs ++ y ∷ []) i ≡ Some x → (slice_get xs i ≡ Some x) ⊎ ((i ≡ length xs) × (y ≡ x))
got_or [] y zero x h = inr (refl, same_Some y x h)
got_or [] y (suc i) x h = absurd (none-some x h)
got_or (z ∷ xs) y zero x h = inl h
got_or (z ∷ xs) y (suc i) x h = ⊎_elim inl (λ g. inr (ap suc g.0, g.1)) (got_or xs y i x h)

pub has_last : {X : Type 0} (xs : List X) (i : ℕ) (x : X) → slice_get xs i ≡ Some x → (before : List X) × (last : X) × (xs ≡ before ++ last ∷ [])
has_last [] i x h = absurd (none-some x h)
has_last (y ∷ []) i x h = ([], y, refl)
has_last (y ∷ z ∷ xs) i x h = let more = has_last (z ∷ xs) 0 z refl in (y ∷ more.0, more.1, ap (λ zs. y ∷ zs) more.2)

-- lists with one more that are the same trees
module _ (xs ys : List Seen) (x y : Seen) (same : AreSameTrees (xs ++ x ∷ []) (ys ++ y ∷ [])) where
  pub as_long : length ys ≡ length xs
  as_long =
      let a = same.on (length xs) x (got_last xs x) in
      let b = same.back (length ys) y (got_last ys y) in
      ⊎_elim (λ here. ⊎_elim (λ there. (let f = slice_get_within ys (length xs) a.0 here in let g = slice_get_within xs (length ys) b.0 there in absurd (omega (arith, f, g)))) (λ there. there.0) (got_or xs x (length ys) b.0 b.1))
      (λ here. sym here.0) (got_or ys y (length xs) a.0 a.1)

  pub last_same : IsSameTree x y
  last_same =
      let a = same.on (length xs) x (got_last xs x) in
      ⊎_elim (λ here. (let f = slice_get_within ys (length xs) a.0 here in let l = as_long in absurd (omega (arith, f, l)))) (λ here. subst (λ z. IsSameTree x z) (sym here.1) a.2) (got_or ys y (length xs) a.0 a.1)

  pub first_same : AreSameTrees xs ys
  first_same = record {
    back = λ i s h.
        let b = same.back i s (got_left ys (y ∷ []) i s h) in
        ⊎_elim (λ here. (b.0, here, b.2)) (λ here. (let f = slice_get_within ys i s h in let l = as_long in let e = here.0 in absurd (omega (arith, f, l, e)))) (got_or xs x i b.0 b.1);
    on = λ i s h.
        let a = same.on i s (got_left xs (x ∷ []) i s h) in
        ⊎_elim (λ here. (a.0, here, a.2)) (λ here. (let f = slice_get_within xs i s h in let l = as_long in let e = here.0 in absurd (omega (arith, f, l, e)))) (got_or ys y i a.0 a.1);
  }

-- ---- the last tree taken back

module _ (before added old dropped : Trees) (tree : Seen) (adds : Adds before tree added) (same : IsSameWalk added old) (drops : Drops old dropped) where
  ends : (all : List Seen) × (last : Seen) × (old.seen.items ≡ all ++ last ∷ [])
  ends =
      let there = subst (λ all. slice_get all (length before.seen.items) ≡ Some tree) (sym adds.seen) (got_last before.seen.items tree) in
      let on = same.trees.on (length before.seen.items) tree there in
      has_last old.seen.items (length before.seen.items) on.0 on.1

  both : AreSameTrees (before.seen.items ++ tree ∷ []) (ends.0 ++ ends.1 ∷ [])
  both = subst (λ all. AreSameTrees (before.seen.items ++ tree ∷ []) all) ends.2 (subst (λ all. AreSameTrees all old.seen.items) adds.seen same.trees)

  pub before_same : AreSameTrees before.seen.items dropped.seen.items
  before_same = subst (λ all. AreSameTrees before.seen.items all) (sym (drops.last ends.0 ends.1 ends.2).0) (first_same before.seen.items ends.0 tree ends.1 both)

  last_named : ends.1.name ≡ tree.name
  last_named = (last_same before.seen.items ends.0 tree ends.1 both).name

  gone : found dropped.places tree.name ≡ None
  gone = subst (λ n. found dropped.places n ≡ None) last_named (drops.last ends.0 ends.1 ends.2).1.gone

  gone_at : StandsAt before.seen.items tree.name None → (n : Name) → n ≡ tree.name → StandsAt dropped.seen.items n (found dropped.places n)
  gone_at none n is = subst (λ m. StandsAt dropped.seen.items m (found dropped.places m)) (sym is)
      (subst (λ o. StandsAt dropped.seen.items tree.name o) (sym gone) (stands_on before.seen.items dropped.seen.items tree.name None before_same none))

  pub stood : StandsAt before.seen.items tree.name None → ((n : Name) → StandsAt before.seen.items n (found before.places n)) → (n : Name) → StandsAt dropped.seen.items n (found dropped.places n)
  stood none places n = ⊎_elim (λ is. gone_at none n (is ∙ last_named)) (λ kept. ⊎_elim (λ is. gone_at none n is)
      (λ stays. (let is : found dropped.places n ≡ found before.places n = kept ∙ ap (λ p. found p n) same.places ∙ stays in
      subst (λ o. StandsAt dropped.seen.items n o) (sym is) (stands_on before.seen.items dropped.seen.items n (found before.places n) before_same (places n))))
      (adds.places.others n)) ((drops.last ends.0 ends.1 ends.2).1.others n)

pub taken_back : (texts : List (List ℕ)) (before added old dropped new : Trees) (tree : Seen) → IsWalk texts before → StandsAt before.seen.items tree.name None → Adds before tree added → IsSameWalk added old → Drops old dropped → Rewinds dropped new → IsWalk texts new
taken_back texts before added old dropped new tree w none adds same drops r =
    let trees = before_same before added old dropped tree adds same drops in
    let all = trees_then before.seen.items dropped.seen.items new.seen.items trees r.trees in
    anew texts new (seen_on texts before.seen.items new.seen.items all w.seen)
    (λ n. stands_on dropped.seen.items new.seen.items n (found new.places n) r.trees (subst (λ p. StandsAt dropped.seen.items n (found p n)) (sym r.places) (stood before added old dropped tree adds same drops none w.places n)))
    r.never r.waiting r.root
