-- A plan covers just what is used, each blob once.
use Rattle.std.proofs.Common.{◌≡◌, ◌≢◌, ◌⊎◌, ◌++◌, ◌∷◌, [], false, List, map, refl, sym, ap, subst, inl, inr, ◌∙◌, Contains}
use Rattle.std.proofs.lemmas.Cmp.{tied_itself}
use Rattle.std.proofs.lemmas.List.Elements.{Contains-append_left, Contains-append_right, Contains-append_cases}
use Rattle.std.proofs.lemmas.Map.Keys.{sorted_head, sorted_tail}
use Rattle.std.specs.Cmp.{IsTotalOrder}
use Rattle.std.specs.List.Sorted.{IsStrictlySortedBy}
use Rattle.std.specs.Ordering.{is_gt, ordering_reverse}
use Rattle.std.specs.declared.cmp.Ordering.{Ordering}
use Rattle.std.specs.declared.cmp.Ordering.TheVariants.{Less, Equal, Greater}
use Rattle.repo_name.specs.Naming.{name_cmp}
use Rattle.repo_name.specs.declared.kinds.BlobKind.{BlobKind}
use Rattle.repo_name.specs.declared.kinds.BlobKind.TheVariants.{Content, Tree}
use Rattle.repo_name.specs.declared.names.Name.{Name}
use Rattle.repo_pack.specs.declared.places.Place.{Place}
use Rattle.repo_index.proofs.OrderLemmas.{names_exact}
use Rattle.repo_index.specs.IndexText.{facts_in, fact_of}
use Rattle.repo_index.specs.Lookups.{IsLeast}
use Rattle.repo_index.specs.Order.{place_cmp, place_first, IsAtMost, places_total, place_first_total, names_total}
use Rattle.repo_index.specs.declared.facts.Fact.{Fact}
use Rattle.repo_index.specs.declared.facts.PackFacts.{PackFacts}
use Rattle.repo_reach.specs.declared.used.Used.{Used}
use Rattle.repo_name.proofs.Containing.{none_contained, first_contained, later_contained, contained_or, flat_contains, contains_flat, contains_map}
use Rattle.repo_writing.specs.Blobs.{HasFact, AreFactsOnce}
use Rattle.repo_prune.proofs.Ascending.{each_all}
use Rattle.repo_prune.proofs.Planning.{least_one}
use Rattle.repo_prune.specs.Plans.{IsUsedCopy, MayStay, IsPlanOf, Covers, planned_facts}
use Rattle.repo_prune.specs.declared.plans.Plan.{Plan}

-- ---- a least place, where there is one

at_most_then : {K : Type 0} {c : K → K → Ordering} → IsTotalOrder c → (x y z : K) → is_gt (c x y) ≡ false → is_gt (c y z) ≡ false → is_gt (c x z) ≡ false
at_most_then {K} {c} total x y z h g = go (c x y) refl (c y z) refl
  where
    go : (a : Ordering) → c x y ≡ a → (b : Ordering) → c y z ≡ b → is_gt (c x z) ≡ false
    go Equal e b f = ap is_gt (total.congr x y z e) ∙ g
    go Less e Less f = ap is_gt (total.trans x y z e f)
    go Less e Equal f = ap is_gt (total.antisymm x z ∙ ap ordering_reverse (sym (total.congr y z x f)) ∙ sym (total.antisymm x y)) ∙ h
    go Less e Greater f = let bad : is_gt Greater ≡ false = ap is_gt (sym f) ∙ g in cc bad
    go Greater e b f = let bad : is_gt Greater ≡ false = ap is_gt (sym e) ∙ h in cc bad

itself_at_most : (p : Place) → IsAtMost p p
itself_at_most p = ap is_gt (tied_itself places_total p)

at_most_or : (p q : Place) → IsAtMost p q ⊎ IsAtMost q p
at_most_or p q = go (place_cmp p q) refl
  where
    go : (o : Ordering) → place_cmp p q ≡ o → IsAtMost p q ⊎ IsAtMost q p
    go Less e = inl (ap is_gt e)
    go Equal e = inl (ap is_gt e)
    go Greater e = inr (ap is_gt (places_total.antisymm q p ∙ ap ordering_reverse e))

name_or_not : (m n : Name) → (m ≡ n) ⊎ (m ≢ n)
name_or_not m n = go (name_cmp m n) refl
  where
    apart : (o : Ordering) → name_cmp m n ≡ o → (o ≡ Equal → ⊥) → m ≢ n
    apart o e never same = never (sym e ∙ subst (λ (z : Name). name_cmp m z ≡ Equal) same (tied_itself names_total m))

    go : (o : Ordering) → name_cmp m n ≡ o → (m ≡ n) ⊎ (m ≢ n)
    go Less e = inr (apart Less e (λ h. cc h))
    go Equal e = inl (names_exact m n e)
    go Greater e = inr (apart Greater e (λ h. cc h))

kind_or_not : (j k : BlobKind) → (j ≡ k) ⊎ (j ≢ k)
kind_or_not Content Content = inl refl
kind_or_not Content Tree = inr (λ h. cc h)
kind_or_not Tree Content = inr (λ h. cc h)
kind_or_not Tree Tree = inl refl

module _ (k : BlobKind) (n : Name) where
  -- the places that facts give
  abbrev At : List Fact → Place → Type 0
  At facts p = Contains facts (fact_of k n p)

  pair_or_not : (f : Fact) → ((f.kind ≡ k) × (f.name ≡ n)) ⊎ ((p : Place) → f ≢ fact_of k n p)
  pair_or_not f = elim (kind_or_not f.kind k) [
    | inl kinds ↦ elim (name_or_not f.name n) [
      | inl names ↦ inl (kinds, names)
      | inr apart ↦ inr (λ p same. apart (ap (λ (g : Fact). g.name) same))
    ]
    | inr apart ↦ inr (λ p same. apart (ap (λ (g : Fact). g.kind) same))
  ]

  least_in : (facts : List Fact) → ((p : Place) × IsLeast facts k n p) ⊎ ((p : Place) → ¬ At facts p)
  least_in [] = inr (λ p h. none_contained (fact_of k n p) h)
  least_in (f ∷ fs) = elim (pair_or_not f) [
    | inr other ↦ elim (least_in fs) [
      | inl l ↦ inl (l.0, record { among = later_contained f fs (fact_of k n l.0) l.1.among; least = λ q h. elim (contained_or f fs (fact_of k n q) h) [ inl same ↦ absurd (other q same) | inr more ↦ l.1.least q more ] })
      | inr none ↦ inr (λ p h. elim (contained_or f fs (fact_of k n p) h) [ inl same ↦ other p same | inr more ↦ none p more ])
    ]
    | inl is ↦
        let same : fact_of k n f.place ≡ f = λ i. record { kind = sym is.0 i; name = sym is.1 i; place = f.place } in
        let first : At (f ∷ fs) f.place = subst (Contains (f ∷ fs)) (sym same) (first_contained f fs) in
        elim (least_in fs) [
          | inr none ↦ inl (
            f.place,
            record {
              among = first;
              least = λ q h. elim (contained_or f fs (fact_of k n q) h) [
                | inl here ↦ subst (IsAtMost f.place) (ap (λ (g : Fact). g.place) here) (itself_at_most f.place)
                | inr more ↦ absurd (none q more)
              ];
            },
          )
          | inl l ↦ elim (at_most_or f.place l.0) [
            | inl below ↦ inl (
              f.place,
              record {
                among = first;
                least = λ q h. elim (contained_or f fs (fact_of k n q) h) [
                  | inl here ↦ subst (IsAtMost f.place) (ap (λ (g : Fact). g.place) here) (itself_at_most f.place)
                  | inr more ↦ at_most_then places_total f.place l.0 q below (l.1.least q more)
                ];
              },
            )
            | inr above ↦ inl (
              l.0,
              record {
                among = later_contained f fs (fact_of k n l.0) l.1.among;
                least = λ q h. elim (contained_or f fs (fact_of k n q) h) [
                  | inl here ↦ subst (IsAtMost l.0) (ap (λ (g : Fact). g.place) here) above
                  | inr more ↦ l.1.least q more
                ];
              },
            )
          ]
        ]
  ]

  pub least_given : (facts : List Fact) → HasFact facts k n → (p : Place) × IsLeast facts k n p
  least_given facts h = elim (least_in facts) [ inl l ↦ l | inr none ↦ absurd (none h.0 h.1) ]

-- ---- lists in which nothing stands twice

abbrev AreApart : {X : Type 0} → List X → Type 0
AreApart [] = Unit {0}
AreApart (x ∷ xs) = (¬ Contains xs x) × AreApart xs

apart_append : {X : Type 0} (xs ys : List X) → AreApart xs → AreApart ys → ((x : X) → Contains xs x → ¬ Contains ys x) → AreApart (xs ++ ys)
apart_append [] ys h g none = g
apart_append (x ∷ xs) ys h g none = (
  λ is. elim (Contains-append_cases xs ys x is) [ inl left ↦ h.0 left | inr right ↦ none x (first_contained x xs) right ],
  apart_append xs ys h.1 g (λ y left. none y (later_contained x xs y left)),
)

sorted_apart : {K : Type 0} (c : K → K → Ordering) → IsTotalOrder c → (xs : List K) → IsStrictlySortedBy c xs → AreApart xs
sorted_apart c total [] h = tt
sorted_apart {K} c total (x ∷ xs) h = (
  λ is.
      let less : c x x ≡ Less = each_all (λ (y : K). c x y ≡ Less) xs x (sorted_head c x xs h) is in
      let equal : c x x ≡ Equal = tied_itself total x in
      let bad : Less ≡ Equal = sym less ∙ equal in cc bad,
  sorted_apart c total xs (sorted_tail c x xs h),
)

-- ---- a plan

module _ (used : Used) (facts : List Fact) (plan : Plan) (is : IsPlanOf used facts plan) where
  -- where a fact of the packs that stay comes from
  kept_fact : (fact : Fact) → Contains (facts_in plan.kept.items) fact → (listed : PackFacts) × MayStay used facts listed × Contains listed.facts fact
  kept_fact fact h = let f = flat_contains (λ (p : PackFacts). p.facts) plan.kept.items fact h in (f.0, (is.kept f.0).0 f.1, f.2)

  copy_of : (fact : Fact) → Contains (planned_facts plan) fact → IsUsedCopy used facts fact
  copy_of fact h = elim (Contains-append_cases (facts_in plan.kept.items) plan.moves.items fact h) [
    | inl kept ↦ let k = kept_fact fact kept in k.1.copies fact k.2
    | inr moves ↦ ((is.moves fact).0 moves).copy
  ]

  -- a pack is one of those, or not
  listed_or : (packs : List PackFacts) (n : Name) → ((l : PackFacts) × Contains packs l × (l.pack ≡ n)) ⊎ ((l : PackFacts) → Contains packs l → l.pack ≢ n)
  listed_or [] n = inr (λ l h. absurd (none_contained l h))
  listed_or (p ∷ packs) n = elim (name_or_not p.pack n) [
    | inl same ↦ inl (p, first_contained p packs, same)
    | inr apart ↦ elim (listed_or packs n) [
      | inl more ↦ inl (more.0, later_contained p packs more.0 more.1, more.2)
      | inr none ↦ inr (λ l h. elim (contained_or p packs l h) [ inl same ↦ subst (λ (z : PackFacts). z.pack ≢ n) same apart | inr more ↦ none l more ])
    ]
  ]

  copy_planned : (fact : Fact) → IsUsedCopy used facts fact → Contains (planned_facts plan) fact
  copy_planned fact copy = elim (listed_or plan.kept.items fact.place.pack) [
    | inl kept ↦
        let stays = (is.kept kept.0).0 kept.1 in
        Contains-append_left (facts_in plan.kept.items) plan.moves.items fact
        (contains_flat (λ (p : PackFacts). p.facts) plan.kept.items kept.0 fact kept.1 ((stays.all.each fact).1 (copy.least.among, sym kept.2)))
    | inr none ↦ Contains-append_right (facts_in plan.kept.items) plan.moves.items fact ((is.moves fact).1 (record { copy = copy; leaves = λ l s. none l ((is.kept l).1 s) }))
  ]

  -- no fact stands twice in packs that stay and ascend
  kept_apart : (packs : List PackFacts) → ((l : PackFacts) → Contains packs l → MayStay used facts l) → IsStrictlySortedBy name_cmp (map (λ (l : PackFacts). l.pack) packs) → AreApart (facts_in packs)
  kept_apart [] each sorted = tt
  kept_apart (p ∷ packs) each sorted =
      let stays = each p (first_contained p packs) in
      apart_append p.facts (facts_in packs) (sorted_apart place_first place_first_total p.facts stays.all.ascend)
      (kept_apart packs (λ l h. each l (later_contained p packs l h)) (sorted_tail name_cmp p.pack (map (λ (l : PackFacts). l.pack) packs) sorted))
      (λ fact here later.
      let l = flat_contains (λ (q : PackFacts). q.facts) packs fact later in
      let other = each l.0 (later_contained p packs l.0 l.1) in
      let packs_are : p.pack ≡ l.0.pack = sym ((stays.all.each fact).0 here).1 ∙ ((other.all.each fact).0 l.2).1 in
      let less = each_all (λ (n : Name). name_cmp p.pack n ≡ Less) (map (λ (q : PackFacts). q.pack) packs) l.0.pack (sorted_head name_cmp p.pack (map (λ (q : PackFacts). q.pack) packs) sorted) (contains_map (λ (q : PackFacts). q.pack) packs l.0 l.1) in
      let equal : name_cmp p.pack l.0.pack ≡ Equal = subst (λ (n : Name). name_cmp p.pack n ≡ Equal) packs_are (tied_itself names_total p.pack) in
      let bad : Less ≡ Equal = sym less ∙ equal in cc bad)

  all_apart : AreApart (planned_facts plan)
  all_apart = apart_append (facts_in plan.kept.items) plan.moves.items (kept_apart plan.kept.items (λ l h. (is.kept l).0 h) is.kept_ascend) (sorted_apart place_first place_first_total plan.moves.items is.moves_ascend)
      (λ fact kept moves. let k = kept_fact fact kept in ((is.moves fact).0 moves).leaves k.0 k.1 (sym ((k.1.all.each fact).0 k.2).1))

  -- two used copies of one pair are one fact
  copy_one : (f g : Fact) → IsUsedCopy used facts f → IsUsedCopy used facts g → f.kind ≡ g.kind → f.name ≡ g.name → f ≡ g
  copy_one f g h i kinds names =
      let here : IsLeast facts g.kind g.name f.place = subst (λ (k : BlobKind). IsLeast facts k g.name f.place) kinds (subst (λ (n : Name). IsLeast facts f.kind n f.place) names h.least) in
      let places = least_one facts g.kind g.name f.place g.place here i.least in
      λ j. record { kind = kinds j; name = names j; place = places j }

  once : (fs : List Fact) → ((f : Fact) → Contains fs f → IsUsedCopy used facts f) → AreApart fs → AreFactsOnce fs
  once [] each apart = tt
  once (f ∷ fs) each apart = (
    λ twice.
        let g = fact_of f.kind f.name twice.0 in
        let same = copy_one f g (each f (first_contained f fs)) (each g (later_contained f fs g twice.1)) refl refl in
        apart.0 (subst (Contains fs) (sym same) twice.1),
    once fs (λ g h. each g (later_contained f fs g h)) apart.1,
  )

  pub plan_covers : Covers used facts plan
  plan_covers = record {
    given = λ k n h g. let l = least_given k n facts g in (l.0, copy_planned (fact_of k n l.0) (record { is_used = h; least = l.1 }));
    just = λ fact h. (copy_of fact h).is_used;
    once = once (planned_facts plan) copy_of all_apart;
  }
