-- What a prune keeps, and what it moves.
use Rattle.std.proofs.Common.{arith, ◌≡◌, ◌≢◌, ◌≤◌, ◌<◌, ◌+◌, get_or, ◌⊎◌, ◌++◌, ◌∷◌, ◌↔◌, [], ℕ, Vec, Global, zero, suc, false, List, length, map, take, drop, refl, sym, ap, subst, inl, inr, ◌∙◌, Contains}
use Rattle.std.proofs.Math.Seq.{take_all}
use Rattle.std.proofs.lemmas.Cmp.{tied_itself}
use Rattle.std.proofs.lemmas.List.{length-append, map-append, take-append-drop}
use Rattle.std.proofs.lemmas.List.Elements.{Contains-append_left, Contains-append_right, Contains-append_cases}
use Rattle.std.specs.List.Sorted.{IsStrictlySortedBy}
use Rattle.std.specs.Ordering.{is_gt, nat_cmp, ordering_then, ordering_reverse}
use Rattle.std.specs.declared.cmp.Ordering.{Ordering}
use Rattle.std.specs.declared.cmp.Ordering.TheVariants.{Less, Equal, Greater}
use Rattle.repo_name.specs.Naming.{name_cmp}
use Rattle.repo_name.specs.declared.kinds.BlobKind.{BlobKind}
use Rattle.repo_name.specs.declared.names.Name.{Name}
use Rattle.repo_pack.specs.declared.places.Place.{Place}
use Rattle.repo_index.proofs.OrderLemmas.{place_first_exact}
use Rattle.repo_index.proofs.SameLemmas.{sorted_same}
use Rattle.repo_index.specs.IndexText.{fact_of}
use Rattle.repo_index.specs.Lookups.{IsLeast, ArePacksOf, AreFactsOf}
use Rattle.repo_index.specs.Order.{place_cmp, kind_cmp, place_first, place_first_total, places_total, kinds_total, names_total}
use Rattle.repo_index.specs.declared.facts.Fact.{Fact}
use Rattle.repo_index.specs.declared.facts.PackFacts.{PackFacts}
use Rattle.repo_reach.proofs.Using.{one_more}
use Rattle.repo_reach.specs.declared.used.Used.{Used}
use Rattle.repo_name.proofs.Containing.{none_contained, first_contained, later_contained, contained_or, map_contains}
use Rattle.repo_prune.proofs.Ascending.{sorted_none, sorted_one, sorted_append, sorted_left, less_across}
use Rattle.repo_prune.specs.Plans.{IsUsedCopy, MayStay, IsPlanOf, AreCopiesOf, IsPlanFor, PlansStay, PlansMoves, Plans}
use Rattle.repo_prune.specs.declared.plans.Plan.{Plan}

-- ---- the least place

neither : (a b : Ordering) → b ≡ ordering_reverse a → is_gt a ≡ false → is_gt b ≡ false → a ≡ Equal
neither Less b e h g = let f : is_gt Greater ≡ false = subst (λ (o : Ordering). is_gt o ≡ false) e g in cc f
neither Equal b e h g = refl
neither Greater b e h g = cc h

-- there is one
pub least_one : (facts : List Fact) (k : BlobKind) (n : Name) (p q : Place) → IsLeast facts k n p → IsLeast facts k n q → p ≡ q
least_one facts k n p q h g =
    let places : place_cmp p q ≡ Equal = neither (place_cmp p q) (place_cmp q p) (places_total.antisymm q p) (h.least q g.among) (g.least p h.among) in
    let rest : ordering_then (kind_cmp k k) (name_cmp n n) ≡ Equal = ap (λ (o : Ordering). ordering_then o (name_cmp n n)) (tied_itself kinds_total k) ∙ tied_itself names_total n in
    let all : place_first (fact_of k n p) (fact_of k n q) ≡ Equal = ap (λ (o : Ordering). ordering_then o (ordering_then (kind_cmp k k) (name_cmp n n))) places ∙ rest in
    ap (λ (fact : Fact). fact.place) (place_first_exact (fact_of k n p) (fact_of k n q) all)

-- ---- lists of one more

only : {X : Type 0} (x y : X) → Contains (x ∷ []) y → x ≡ y
only x y h = elim (contained_or x [] y h) [ inl same ↦ same | inr none ↦ absurd (none_contained y none) ]

module _ {X : Type 0} (xs : List X) (x : X) where
  one_longer : length (xs ++ x ∷ []) ≡ length xs + 1
  one_longer = length-append xs (x ∷ [])

  was_in : (y : X) → Contains xs y → Contains (xs ++ x ∷ []) y
  was_in y h = Contains-append_left xs (x ∷ []) y h

  last_in : Contains (xs ++ x ∷ []) x
  last_in = Contains-append_right xs (x ∷ []) x (first_contained x [])

  in_or : (y : X) → Contains (xs ++ x ∷ []) y → Contains xs y ⊎ (x ≡ y)
  in_or y h = elim (Contains-append_cases xs (x ∷ []) y h) [ inl was ↦ inl was | inr last ↦ inr (only x y last) ]

pub at_contained : {X : Type 0} (xs : List X) (i : ℕ) (d : X) → i < length xs → Contains xs (get_or xs i d)
at_contained [] i d h = absurd (omega (arith, h))
at_contained (x ∷ xs) zero d h = first_contained x xs
at_contained (x ∷ xs) (suc i) d h = later_contained x xs (get_or xs i d) (at_contained xs i d (omega (arith, h)))

-- ---- used copies

module _ (used : Used) (facts : List Fact) where
  pub none_are_copies : AreCopiesOf used facts [] []
  none_are_copies = record {
    each = λ f. (λ h. absurd (none_contained f h), λ h. absurd (none_contained f h.0));
    ascend = λ h. h;
    fewer = omega arith;
    whole = (λ same f h. absurd (none_contained f h), λ all. refl);
  }

  module _ (own copies : List Fact) (fact : Fact) (before : AreCopiesOf used facts own copies) where
    pub copy_more : IsUsedCopy used facts fact → AreCopiesOf used facts (own ++ fact ∷ []) (copies ++ fact ∷ [])
    copy_more copy = record {
      each = λ f. (
        λ h. elim (in_or copies fact f h) [
          | inl was ↦ let e = (before.each f).0 was in (was_in own fact f e.0, e.1)
          | inr same ↦ (subst (Contains (own ++ fact ∷ [])) same (last_in own fact), subst (IsUsedCopy used facts) same copy)
        ],
        λ h. elim (in_or own fact f h.0) [
          | inl was ↦ was_in copies fact f ((before.each f).1 (was, h.1))
          | inr same ↦ subst (Contains (copies ++ fact ∷ [])) same (last_in copies fact)
        ],
      );
      ascend = λ sorted. sorted_append place_first copies (fact ∷ []) (before.ascend (sorted_left place_first own (fact ∷ []) sorted)) (sorted_one place_first fact)
          (λ a b left right. less_across place_first own (fact ∷ []) sorted a b ((before.each a).0 left).0 right);
      fewer = let few = before.fewer in let a = one_longer own fact in let b = one_longer copies fact in omega (arith, few, a, b);
      whole = (
        λ same f h. let a = one_longer own fact in let b = one_longer copies fact in
            elim (in_or own fact f h) [ inl was ↦ before.whole.0 (omega (arith, same, a, b)) f was | inr is ↦ subst (IsUsedCopy used facts) is copy ],
        λ all. let same = before.whole.1 (λ f h. all f (was_in own fact f h)) in let a = one_longer own fact in let b = one_longer copies fact in omega (arith, same, a, b),
      );
    }

    pub copy_none : ¬ IsUsedCopy used facts fact → AreCopiesOf used facts (own ++ fact ∷ []) copies
    copy_none other = record {
      each = λ f. (
        λ h. let e = (before.each f).0 h in (was_in own fact f e.0, e.1),
        λ h. elim (in_or own fact f h.0) [ inl was ↦ (before.each f).1 (was, h.1) | inr same ↦ absurd (other (subst (IsUsedCopy used facts) (sym same) h.1)) ],
      );
      ascend = λ sorted. before.ascend (sorted_left place_first own (fact ∷ []) sorted);
      fewer = let few = before.fewer in let a = one_longer own fact in omega (arith, few, a);
      whole = (
        λ same f h. let few = before.fewer in let a = one_longer own fact in absurd (omega (arith, few, same, a)),
        λ all. absurd (other (all fact (last_in own fact))),
      );
    }

  module _ (own copies : List Fact) (i : ℕ) (d : Fact) (within : i < length own) (before : AreCopiesOf used facts (take i own) copies) where
    pub copy_then : IsUsedCopy used facts (get_or own i d) → (new : List Fact) → new ≡ copies ++ get_or own i d ∷ [] → AreCopiesOf used facts (take (i + 1) own) new
    copy_then copy new is = subst (λ (cs : List Fact). AreCopiesOf used facts (take (i + 1) own) cs) (sym is)
        (subst (λ (fs : List Fact). AreCopiesOf used facts fs (copies ++ get_or own i d ∷ [])) (sym (one_more own i d within)) (copy_more (take i own) copies (get_or own i d) before copy))

    pub none_then : ¬ IsUsedCopy used facts (get_or own i d) → (new : List Fact) → new ≡ copies → AreCopiesOf used facts (take (i + 1) own) new
    none_then other new is = subst (λ (cs : List Fact). AreCopiesOf used facts (take (i + 1) own) cs) (sym is)
        (subst (λ (fs : List Fact). AreCopiesOf used facts fs copies) (sym (one_more own i d within)) (copy_none (take i own) copies (get_or own i d) before other))

  -- ---- one pack

  -- two lists of a pack's facts are one
  facts_one : (pack other : Name) (own theirs : List Fact) → pack ≡ other → AreFactsOf facts pack own → AreFactsOf facts other theirs → own ≡ theirs
  facts_one pack other own theirs e h g = sorted_same place_first place_first_total own theirs h.ascend g.ascend
      (λ f is. let o = (h.each f).0 is in (g.each f).1 (o.0, o.1 ∙ e)) (λ f is. let o = (g.each f).0 is in (h.each f).1 (o.0, o.1 ∙ sym e))

  stays_one : (one other : PackFacts) → one.pack ≡ other.pack → MayStay used facts one → MayStay used facts other → one ≡ other
  stays_one one other e h g = let f = facts_one one.pack other.pack one.facts other.facts e h.all g.all in λ i. record { pack = e i; facts = f i }

  stays_whole : (pack : Name) (own copies : List Fact) → AreFactsOf facts pack own → AreCopiesOf used facts own copies → (1 ≤ length own) × (length own ≤ 4_096) × (length copies ≡ length own)
      → MayStay used facts (record { pack = pack; facts = own })
  stays_whole pack own copies all are is = record { all = all; some = is.0; few = is.1; copies = are.whole.0 is.2 }

  leaves_else : (pack : Name) (own copies : List Fact) → AreFactsOf facts pack own → AreCopiesOf used facts own copies → ¬ ((1 ≤ length own) × (length own ≤ 4_096) × (length copies ≡ length own))
      → (listed : PackFacts) → MayStay used facts listed → listed.pack ≢ pack
  leaves_else pack own copies all are not listed stays same =
      let facts_are : listed.facts ≡ own = facts_one listed.pack pack listed.facts own same stays.all all in
      let some = stays.some in
      let few = stays.few in
      let long : length listed.facts ≡ length own = ap length facts_are in
      not (omega (arith, some, long), omega (arith, few, long), are.whole.1 (λ f h. stays.copies f (subst (λ (fs : List Fact). Contains fs f) (sym facts_are) h)))

  copies_of_pack : (pack : Name) (own copies : List Fact) → AreFactsOf facts pack own → AreCopiesOf used facts own copies → (fact : Fact) → Contains copies fact ↔ ((fact.place.pack ≡ pack) × IsUsedCopy used facts fact)
  copies_of_pack pack own copies all are fact = (
    λ h. let e = (are.each fact).0 h in (((all.each fact).0 e.0).1, e.1),
    λ h. (are.each fact).1 ((all.each fact).1 (h.1.least.among, h.0), h.1),
  )

  -- what becomes of a pack
  module _ (pack : Name) (own copies : List Fact) (all : AreFactsOf facts pack own) (are : ((f : Fact) → Contains own f → Contains facts f) → AreCopiesOf used facts own copies) where
    copies_are : AreCopiesOf used facts own copies
    copies_are = are (λ f h. ((all.each f).0 h).0)

    pub pack_stays : (1 ≤ length own) × (length own ≤ 4_096) × (length copies ≡ length own) → (old new : Plan) → new.kept.items ≡ old.kept.items ++ record { pack = pack; facts = own } ∷ [] → new.moves ≡ old.moves → Plans used facts pack old new
    pack_stays is old new kept moves = inl (record { listed = record { pack = pack; facts = own }; named = refl; stays = stays_whole pack own copies all copies_are is; kept = kept; moves = ap (λ (v : Vec Fact Global). v.items) moves })

    pub pack_moves : ¬ ((1 ≤ length own) × (length own ≤ 4_096) × (length copies ≡ length own)) → (old new : Plan) → new.moves.items ≡ old.moves.items ++ copies → new.kept ≡ old.kept → Plans used facts pack old new
    pack_moves not old new moves kept = inr (record {
      copies = copies;
      each = copies_of_pack pack own copies all copies_are;
      ascend = copies_are.ascend all.ascend;
      leaves = leaves_else pack own copies all copies_are not;
      moves = moves;
      kept = ap (λ (v : Vec PackFacts Global). v.items) kept;
    })

  -- ---- pack after pack

  abbrev names_of : List PackFacts → List Name
  names_of listed = map (λ (l : PackFacts). l.pack) listed

  module _ (done : List Name) (pack : Name) (sorted : IsStrictlySortedBy name_cmp (done ++ pack ∷ [])) (old new : Plan) (before : IsPlanFor used facts done old) where
    earlier : (n : Name) → Contains done n → name_cmp n pack ≡ Less
    earlier n h = less_across name_cmp done (pack ∷ []) sorted n pack h (first_contained pack [])

    planned_stay : PlansStay used facts pack old new → IsPlanFor used facts (done ++ pack ∷ []) new
    planned_stay s = record {
      kept = λ l. (
        λ h. elim (in_or old.kept.items s.listed l (subst (λ (ls : List PackFacts). Contains ls l) s.kept h)) [
          | inl was ↦ let e = (before.kept l).0 was in (was_in done pack l.pack e.0, e.1)
          | inr same ↦ (subst (λ (z : PackFacts). Contains (done ++ pack ∷ []) z.pack) same (subst (Contains (done ++ pack ∷ [])) (sym s.named) (last_in done pack)), subst (MayStay used facts) same s.stays)
        ],
        λ h. subst (λ (ls : List PackFacts). Contains ls l) (sym s.kept) (elim (in_or done pack l.pack h.0) [
          | inl was ↦ was_in old.kept.items s.listed l ((before.kept l).1 (was, h.1))
          | inr same ↦ subst (Contains (old.kept.items ++ s.listed ∷ [])) (stays_one s.listed l (s.named ∙ same) s.stays h.1) (last_in old.kept.items s.listed)
        ]),
      );
      moves = λ f. (
        λ h. let e = (before.moves f).0 (subst (λ (fs : List Fact). Contains fs f) s.moves h) in (was_in done pack f.place.pack e.0, e.1),
        λ h. subst (λ (fs : List Fact). Contains fs f) (sym s.moves) (elim (in_or done pack f.place.pack h.0) [
          | inl was ↦ (before.moves f).1 (was, h.1)
          | inr same ↦ absurd (h.1.leaves s.listed s.stays (s.named ∙ same))
        ]),
      );
      kept_ascend =
          let names : names_of new.kept.items ≡ names_of old.kept.items ++ s.listed.pack ∷ [] = ap names_of s.kept ∙ map-append (λ (l : PackFacts). l.pack) old.kept.items (s.listed ∷ []) in
          subst (IsStrictlySortedBy name_cmp) (sym names) (sorted_append name_cmp (names_of old.kept.items) (s.listed.pack ∷ []) before.kept_ascend (sorted_one name_cmp s.listed.pack)
          (λ a b left right.
          let l = map_contains (λ (z : PackFacts). z.pack) old.kept.items a left in
          let in_done : Contains done a = subst (Contains done) l.2 ((before.kept l.0).0 l.1).0 in
          subst (λ (n : Name). name_cmp a n ≡ Less) (sym s.named ∙ only s.listed.pack b right) (earlier a in_done)));
      moves_ascend = subst (IsStrictlySortedBy place_first) (sym s.moves) before.moves_ascend;
    }

    planned_moves : PlansMoves used facts pack old new → IsPlanFor used facts (done ++ pack ∷ []) new
    planned_moves m = record {
      kept = λ l. (
        λ h. let e = (before.kept l).0 (subst (λ (ls : List PackFacts). Contains ls l) m.kept h) in (was_in done pack l.pack e.0, e.1),
        λ h. subst (λ (ls : List PackFacts). Contains ls l) (sym m.kept) (elim (in_or done pack l.pack h.0) [
          | inl was ↦ (before.kept l).1 (was, h.1)
          | inr same ↦ absurd (m.leaves l h.1 (sym same))
        ]),
      );
      moves = λ f. (
        λ h. elim (Contains-append_cases old.moves.items m.copies f (subst (λ (fs : List Fact). Contains fs f) m.moves h)) [
          | inl was ↦ let e = (before.moves f).0 was in (was_in done pack f.place.pack e.0, e.1)
          | inr new ↦ let e = (m.each f).0 new in
              (subst (Contains (done ++ pack ∷ [])) (sym e.0) (last_in done pack), record { copy = e.1; leaves = λ l s same. m.leaves l s (same ∙ e.0) })
        ],
        λ h. subst (λ (fs : List Fact). Contains fs f) (sym m.moves) (elim (in_or done pack f.place.pack h.0) [
          | inl was ↦ Contains-append_left old.moves.items m.copies f ((before.moves f).1 (was, h.1))
          | inr same ↦ Contains-append_right old.moves.items m.copies f ((m.each f).1 (sym same, h.1.copy))
        ]),
      );
      kept_ascend = subst (λ (ls : List PackFacts). IsStrictlySortedBy name_cmp (names_of ls)) (sym m.kept) before.kept_ascend;
      moves_ascend = subst (IsStrictlySortedBy place_first) (sym m.moves) (sorted_append place_first old.moves.items m.copies before.moves_ascend m.ascend
          (λ a b left right.
          let packs : name_cmp a.place.pack b.place.pack ≡ Less = subst (λ (n : Name). name_cmp a.place.pack n ≡ Less) (sym ((m.each b).0 right).0) (earlier a.place.pack ((before.moves a).0 left).0) in
          first_less a b packs));
    }
      where
        first_less : (a b : Fact) → name_cmp a.place.pack b.place.pack ≡ Less → place_first a b ≡ Less
        first_less a b h = ap (λ (o : Ordering). ordering_then (ordering_then o (ordering_then (nat_cmp a.place.offset b.place.offset) (nat_cmp a.place.length b.place.length))) (ordering_then (kind_cmp a.kind b.kind) (name_cmp a.name b.name))) h

    planned_step : Plans used facts pack old new → IsPlanFor used facts (done ++ pack ∷ []) new
    planned_step (inl s) = planned_stay s
    planned_step (inr m) = planned_moves m

  pub none_planned : (plan : Plan) → plan.kept.items ≡ [] → plan.moves.items ≡ [] → (names : List Name) → IsPlanFor used facts (take 0 names) plan
  none_planned plan kept moves names = record {
    kept = λ l. (λ h. absurd (none_contained l (subst (λ (ls : List PackFacts). Contains ls l) kept h)), λ h. absurd (none_contained l.pack h.0));
    moves = λ f. (λ h. absurd (none_contained f (subst (λ (fs : List Fact). Contains fs f) moves h)), λ h. absurd (none_contained f.place.pack h.0));
    kept_ascend = subst (λ (ls : List PackFacts). IsStrictlySortedBy name_cmp (names_of ls)) (sym kept) (sorted_none name_cmp);
    moves_ascend = subst (IsStrictlySortedBy place_first) (sym moves) (sorted_none place_first);
  }

  pub planned_then : (names : List Name) (i : ℕ) (d : Name) → i < length names → IsStrictlySortedBy name_cmp names → (old new : Plan) → IsPlanFor used facts (take i names) old → Plans used facts (get_or names i d) old new
      → IsPlanFor used facts (take (i + 1) names) new
  planned_then names i d within ascend old new before step =
      let more = one_more names i d within in
      let whole : IsStrictlySortedBy name_cmp (take (i + 1) names ++ drop (i + 1) names) = subst (IsStrictlySortedBy name_cmp) (sym (take-append-drop (i + 1) names)) ascend in
      let sorted = subst (IsStrictlySortedBy name_cmp) more (sorted_left name_cmp (take (i + 1) names) (drop (i + 1) names) whole) in
      subst (λ (ns : List Name). IsPlanFor used facts ns new) (sym more) (planned_step (take i names) (get_or names i d) sorted old new before step)

  pub all_planned : (names : List Name) (i : ℕ) → length names ≤ i → ArePacksOf facts names → (plan : Plan) → IsPlanFor used facts (take i names) plan → IsPlanOf used facts plan
  all_planned names i end packs plan given =
      let p = subst (λ (ns : List Name). IsPlanFor used facts ns plan) (take_all i names end) given in record {
        kept = λ l. (λ h. ((p.kept l).0 h).1, λ s. (p.kept l).1 ((packs.each l.pack).1 (first_of l s), s));
        moves = λ f. (λ h. ((p.moves f).0 h).1, λ m. (p.moves f).1 ((packs.each f.place.pack).1 (f, m.copy.least.among, refl), m));
        kept_ascend = p.kept_ascend;
        moves_ascend = p.moves_ascend;
      }
    where
      one_of : (xs : List Fact) → 1 ≤ length xs → (x : Fact) × Contains xs x
      one_of [] h = absurd (omega (arith, h))
      one_of (x ∷ xs) h = (x, first_contained x xs)

      first_of : (l : PackFacts) → MayStay used facts l → (fact : Fact) × Contains facts fact × (fact.place.pack ≡ l.pack)
      first_of l s = let f = one_of l.facts s.some in let e = (s.all.each f.0).0 f.1 in (f.0, e.0, e.1)
