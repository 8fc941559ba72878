-- What a look-up holds, and what it finds.
use Rattle.std.proofs.Common.{◌≡◌, ◌≢◌, ◌↔◌, ◌<◌, ◌+◌, ◌⊎◌, ◌++◌, ◌∷◌, [], ℕ, List, length, take, get_or, append-nil, append_assoc, Bool, true, false, cond, refl, ap, sym, ◌∙◌, subst, inl, inr, Contains, arith}
use Rattle.std.specs.Prelude.{IsTrue}
use Rattle.std.specs.Cmp.{IsTotalOrder}
use Rattle.std.proofs.lemmas.Cmp.{tied_itself}
use Rattle.std.proofs.lemmas.Map.Views.{btree_set_contains_iff}
use Rattle.std.proofs.lemmas.List.{take_more}
use Rattle.std.proofs.lemmas.List.Elements.{Contains-append_left, Contains-append_right, Contains-append_cases, Contains-push, Contains-push_cases}
use Rattle.std.specs.Ordering.{ordering_then, ordering_reverse, is_gt, is_eq}
use Rattle.std.specs.declared.cmp.Ordering.{Ordering}
use Rattle.std.specs.declared.cmp.Ordering.TheVariants.{Less, Equal, Greater}
use Rattle.std.specs.declared.ops.Bound.TheVariants.{Included, Excluded}
use Rattle.std.specs.BTreeMap.{is_at}
use Rattle.std.specs.BTreeMap.Range.{IsLeBy, IsInRange}
use Rattle.std.specs.BTreeSet.{BTreeSet, contains, Updates, IsKeyRangeOf}
use Rattle.repo_name.specs.Naming.{name_cmp}
use Rattle.repo_name.specs.declared.names.Name.{Name}
use Rattle.repo_name.specs.declared.kinds.BlobKind.{BlobKind}
use Rattle.repo_pack.specs.declared.places.Place.{Place}
use Rattle.repo_index.specs.IndexText.{fact_of, IsFact, IsPlace, facts_in}
use Rattle.repo_index.specs.Order.{place_cmp, kind_cmp, name_first, IsAtMost, names_total, kinds_total, places_total, name_first_total}
use Rattle.repo_index.specs.inner.Bounds.{IsBeforePair, IsAfterPair}
use Rattle.repo_index.specs.Lookups.{IsLeast, IsNextPlace, IsLastPlace, Joins, Grew, HasSame, AreFacts}
use Rattle.repo_index.specs.declared.facts.Fact.{Fact}
use Rattle.repo_index.specs.declared.facts.PackFacts.{PackFacts}
use Rattle.repo_index.proofs.OrderLemmas.{then_le, between, same_le, kinds_exact, names_exact, name_first_exact}

-- ---- members of a set

has : (s : BTreeSet Fact) (f : Fact) → Contains s.keys f → IsTrue (contains name_first s f)
has s f h = (btree_set_contains_iff name_first_total name_first_exact s f).1 h

member : (s : BTreeSet Fact) (f : Fact) → IsTrue (contains name_first s f) → Contains s.keys f
member s f h = (btree_set_contains_iff name_first_total name_first_exact s f).0 h

-- ---- what a look-up finds

-- what stands between the bounds of a kind and name is of that kind and name
pair_is : (kind : BlobKind) (name : Name) (lo hi f : Fact) → IsBeforePair kind name lo → IsAfterPair kind name hi
    → IsInRange name_first (Included lo) (Included hi) f → (kind ≡ f.kind) × (name ≡ f.name)
pair_is kind name lo hi f low high is =
    let below : is_gt (ordering_then (kind_cmp kind f.kind) (ordering_then (name_cmp name f.name) (place_cmp lo.place f.place))) ≡ false =
    subst (λ (n : Name). is_gt (ordering_then (kind_cmp kind f.kind) (ordering_then (name_cmp n f.name) (place_cmp lo.place f.place))) ≡ false) low.name_is
    (subst (λ (k : BlobKind). is_gt (ordering_then (kind_cmp k f.kind) (ordering_then (name_cmp lo.name f.name) (place_cmp lo.place f.place))) ≡ false) low.kind_is is.0) in
    let above : is_gt (ordering_then (kind_cmp f.kind kind) (ordering_then (name_cmp f.name name) (place_cmp f.place hi.place))) ≡ false =
    subst (λ (n : Name). is_gt (ordering_then (kind_cmp f.kind kind) (ordering_then (name_cmp f.name n) (place_cmp f.place hi.place))) ≡ false) high.name_is
    (subst (λ (k : BlobKind). is_gt (ordering_then (kind_cmp f.kind k) (ordering_then (name_cmp f.name hi.name) (place_cmp f.place hi.place))) ≡ false) high.kind_is is.1) in
    let kinds = between (kind_cmp kind f.kind) (kind_cmp f.kind kind) (ordering_then (name_cmp name f.name) (place_cmp lo.place f.place))
    (ordering_then (name_cmp f.name name) (place_cmp f.place hi.place)) (kinds_total.antisymm f.kind kind) below above in
    let names = between (name_cmp name f.name) (name_cmp f.name name) (place_cmp lo.place f.place) (place_cmp f.place hi.place)
    (names_total.antisymm f.name name) kinds.1 kinds.2 in
    (kinds_exact kind f.kind kinds.0, names_exact name f.name names.0)

-- and each fact of that kind and name stands there
pair_in : (kind : BlobKind) (name : Name) (lo hi : Fact) (place : Place) → IsBeforePair kind name lo → IsAfterPair kind name hi
    → IsFact (fact_of kind name place) → IsInRange name_first (Included lo) (Included hi) (fact_of kind name place)
pair_in kind name lo hi place low high is = (
  then_le (kind_cmp lo.kind kind) (ordering_then (name_cmp lo.name name) (place_cmp lo.place place)) (same_le kinds_total lo.kind kind low.kind_is)
      (then_le (name_cmp lo.name name) (place_cmp lo.place place) (same_le names_total lo.name name low.name_is) (low.before place is.place)),
  then_le (kind_cmp kind hi.kind) (ordering_then (name_cmp name hi.name) (place_cmp place hi.place)) (same_le kinds_total kind hi.kind (sym high.kind_is))
      (then_le (name_cmp name hi.name) (place_cmp place hi.place) (same_le names_total name hi.name (sym high.name_is)) (high.after place is.place)),
)

-- the bounds stand in order
pub pair_forward : (kind : BlobKind) (name : Name) (lo hi : Fact) → IsBeforePair kind name lo → IsAfterPair kind name hi → IsLeBy name_first lo hi
pair_forward kind name lo hi low high =
    then_le (kind_cmp lo.kind hi.kind) (ordering_then (name_cmp lo.name hi.name) (place_cmp lo.place hi.place))
    (same_le kinds_total lo.kind hi.kind (low.kind_is ∙ sym high.kind_is))
    (then_le (name_cmp lo.name hi.name) (place_cmp lo.place hi.place) (same_le names_total lo.name hi.name (low.name_is ∙ sym high.name_is))
    (low.before hi.place high.place))

-- of facts of one kind and name the first has the least place
place_of_first : (kind : BlobKind) (name : Name) (p q : Place) → IsLeBy name_first (fact_of kind name p) (fact_of kind name q) → IsAtMost p q
place_of_first kind name p q h =
    let e : kind_cmp kind kind ≡ Equal = tied_itself kinds_total kind in
    let f : name_cmp name name ≡ Equal = tied_itself names_total name in
    let g : is_gt (ordering_then Equal (ordering_then (name_cmp name name) (place_cmp p q))) ≡ false =
    subst (λ (o : Ordering). is_gt (ordering_then o (ordering_then (name_cmp name name) (place_cmp p q))) ≡ false) e h in
    subst (λ (o : Ordering). is_gt (ordering_then o (place_cmp p q)) ≡ false) f g

-- the first fact between the bounds has the least place
pub least_is_first : (by_name : BTreeSet Fact) (kind : BlobKind) (name : Name) (lo hi k : Fact) (rest : List Fact)
    → AreFacts by_name.keys → IsBeforePair kind name lo → IsAfterPair kind name hi
    → IsKeyRangeOf name_first (Included lo) (Included hi) by_name (k ∷ rest) → IsLeast by_name.keys kind name k.place
least_is_first by_name kind name lo hi k rest made low high range =
    let pair = pair_is kind name lo hi k low high range.1.0 in
    let is : k ≡ fact_of kind name k.place = λ i. record { kind = sym pair.0 i; name = sym pair.1 i; place = k.place } in
    record {
      among = subst (Contains by_name.keys) is (member by_name k range.1.1);
      least = λ other h.
          let inside = pair_in kind name lo hi other low high (made (fact_of kind name other) h) in
          let first = range.2 (fact_of kind name other) inside (has by_name (fact_of kind name other) h) in
          place_of_first kind name k.place other (subst (λ (f : Fact). IsLeBy name_first f (fact_of kind name other)) is first);
    }

-- where nothing stands between the bounds no fact has the kind and name
pub none_is_none : (by_name : BTreeSet Fact) (kind : BlobKind) (name : Name) (lo hi : Fact)
    → AreFacts by_name.keys → IsBeforePair kind name lo → IsAfterPair kind name hi
    → IsKeyRangeOf name_first (Included lo) (Included hi) by_name [] → (place : Place) → ¬ Contains by_name.keys (fact_of kind name place)
none_is_none by_name kind name lo hi made low high range place h =
    let inside = pair_in kind name lo hi place low high (made (fact_of kind name place) h) in
    let absent = range.5 refl (fact_of kind name place) inside in
    let e : true ≡ false = sym (has by_name (fact_of kind name place) h) ∙ absent in
    cc e

-- ---- what it finds behind a place

-- what stands behind a fact, and at or before the last of its kind and name, is of that kind and name, and lies behind it
behind_is : (kind : BlobKind) (name : Name) (place : Place) (hi f : Fact) → IsAfterPair kind name hi
    → IsInRange name_first (Excluded (fact_of kind name place)) (Included hi) f → (kind ≡ f.kind) × (name ≡ f.name) × (place_cmp place f.place ≡ Less)
behind_is kind name place hi f high is =
    let below : is_gt (ordering_then (kind_cmp kind f.kind) (ordering_then (name_cmp name f.name) (place_cmp place f.place))) ≡ false = ap is_gt is.0 in
    let above : is_gt (ordering_then (kind_cmp f.kind kind) (ordering_then (name_cmp f.name name) (place_cmp f.place hi.place))) ≡ false =
    subst (λ (n : Name). is_gt (ordering_then (kind_cmp f.kind kind) (ordering_then (name_cmp f.name n) (place_cmp f.place hi.place))) ≡ false) high.name_is
    (subst (λ (k : BlobKind). is_gt (ordering_then (kind_cmp f.kind k) (ordering_then (name_cmp f.name hi.name) (place_cmp f.place hi.place))) ≡ false) high.kind_is is.1) in
    let kinds = between (kind_cmp kind f.kind) (kind_cmp f.kind kind) (ordering_then (name_cmp name f.name) (place_cmp place f.place))
    (ordering_then (name_cmp f.name name) (place_cmp f.place hi.place)) (kinds_total.antisymm f.kind kind) below above in
    let names = between (name_cmp name f.name) (name_cmp f.name name) (place_cmp place f.place) (place_cmp f.place hi.place)
    (names_total.antisymm f.name name) kinds.1 kinds.2 in
    let after_kind : ordering_then Equal (ordering_then (name_cmp name f.name) (place_cmp place f.place)) ≡ Less =
    subst (λ (o : Ordering). ordering_then o (ordering_then (name_cmp name f.name) (place_cmp place f.place)) ≡ Less) kinds.0 is.0 in
    let after_name : ordering_then Equal (place_cmp place f.place) ≡ Less =
    subst (λ (o : Ordering). ordering_then o (place_cmp place f.place) ≡ Less) names.0 after_kind in
    (kinds_exact kind f.kind kinds.0, names_exact name f.name names.0, after_name)

-- and each fact of that kind and name that lies behind it stands there
behind_in : (kind : BlobKind) (name : Name) (place other : Place) (hi : Fact) → IsAfterPair kind name hi → IsFact (fact_of kind name other)
    → place_cmp place other ≡ Less → IsInRange name_first (Excluded (fact_of kind name place)) (Included hi) (fact_of kind name other)
behind_in kind name place other hi high is less =
    let e : Equal ≡ kind_cmp kind kind = sym (tied_itself kinds_total kind) in
    let f : Equal ≡ name_cmp name name = sym (tied_itself names_total name) in
    let by_name : ordering_then (name_cmp name name) (place_cmp place other) ≡ Less =
    subst (λ (o : Ordering). ordering_then o (place_cmp place other) ≡ Less) f less in (
      subst (λ (o : Ordering). ordering_then o (ordering_then (name_cmp name name) (place_cmp place other)) ≡ Less) e by_name,
      then_le (kind_cmp kind hi.kind) (ordering_then (name_cmp name hi.name) (place_cmp other hi.place)) (same_le kinds_total kind hi.kind (sym high.kind_is))
          (then_le (name_cmp name hi.name) (place_cmp other hi.place) (same_le names_total name hi.name (sym high.name_is)) (high.after other is.place)),
    )

-- the bounds stand in order
pub behind_forward : (fact hi : Fact) → IsPlace fact.place → IsAfterPair fact.kind fact.name hi → IsLeBy name_first fact hi
behind_forward fact hi is high =
    then_le (kind_cmp fact.kind hi.kind) (ordering_then (name_cmp fact.name hi.name) (place_cmp fact.place hi.place))
    (same_le kinds_total fact.kind hi.kind (sym high.kind_is))
    (then_le (name_cmp fact.name hi.name) (place_cmp fact.place hi.place) (same_le names_total fact.name hi.name (sym high.name_is)) (high.after fact.place is))

-- the first fact between the bounds has the least place behind the other
pub next_is_first : (by_name : BTreeSet Fact) (fact hi k : Fact) (rest : List Fact) → AreFacts by_name.keys → IsAfterPair fact.kind fact.name hi
    → IsKeyRangeOf name_first (Excluded fact) (Included hi) by_name (k ∷ rest) → IsNextPlace by_name.keys fact.kind fact.name fact.place k.place
next_is_first by_name fact hi k rest made high range =
    let pair = behind_is fact.kind fact.name fact.place hi k high range.1.0 in
    let is : k ≡ fact_of fact.kind fact.name k.place = λ i. record { kind = sym pair.0 i; name = sym pair.1 i; place = k.place } in
    record {
      among = subst (Contains by_name.keys) is (member by_name k range.1.1);
      behind = pair.2;
      least = λ other h less.
          let inside = behind_in fact.kind fact.name fact.place other hi high (made (fact_of fact.kind fact.name other) h) less in
          let first = range.2 (fact_of fact.kind fact.name other) inside (has by_name (fact_of fact.kind fact.name other) h) in
          place_of_first fact.kind fact.name k.place other (subst (λ (f : Fact). IsLeBy name_first f (fact_of fact.kind fact.name other)) is first);
    }

-- what isn't before another is at or behind it
not_before : (a b : Ordering) → b ≡ ordering_reverse a → (a ≡ Less → ⊥) → is_gt b ≡ false
not_before Less b e other = absurd (other refl)
not_before Equal b e other = ap is_gt e
not_before Greater b e other = ap is_gt e

-- where nothing stands between the bounds no fact of the kind and name lies behind
pub none_is_last : (by_name : BTreeSet Fact) (fact hi : Fact) → AreFacts by_name.keys → IsAfterPair fact.kind fact.name hi
    → IsKeyRangeOf name_first (Excluded fact) (Included hi) by_name [] → IsLastPlace by_name.keys fact.kind fact.name fact.place
none_is_last by_name fact hi made high range other h =
    not_before (place_cmp fact.place other) (place_cmp other fact.place) (places_total.antisymm other fact.place) (λ less.
    let inside = behind_in fact.kind fact.name fact.place other hi high (made (fact_of fact.kind fact.name other) h) less in
    let absent = range.5 refl (fact_of fact.kind fact.name other) inside in
    let e : true ≡ false = sym (has by_name (fact_of fact.kind fact.name other) h) ∙ absent in
    absurd (cc))

-- ---- a fact added

equal_is : (o : Ordering) → is_eq o ≡ true → o ≡ Equal
equal_is Less h = cc h
equal_is Equal h = refl
equal_is Greater h = cc h

true_cases : (b c : Bool) → cond b true c ≡ true → (b ≡ true) ⊎ (c ≡ true)
true_cases true c h = inl refl
true_cases false c h = inr h

cond_right : (b c : Bool) → c ≡ true → cond b true c ≡ true
cond_right true c h = refl
cond_right false c h = h

cond_less : (b c : Bool) → cond b false c ≡ true → c ≡ true
cond_less true c h = cc h
cond_less false c h = h

cond_other : (b c : Bool) → c ≡ true → (b ≡ true → ⊥) → cond b false c ≡ true
cond_other true c h n = absurd (n refl)
cond_other false c h n = h

cond_not : (b c : Bool) → cond b false c ≡ true → b ≡ true → ⊥
cond_not true c h p = cc h
cond_not false c h p = cc p

none_in : (f : Fact) → Contains [] f → ⊥
none_in f h = absurd (omega (arith, h.1))

-- what stands in a list of one
only : (k f : Fact) → Contains (k ∷ []) f → k ≡ f
only k f h = elim (Contains-push_cases [] k f h) [ inl none ↦ absurd (none_in f none) | inr same ↦ same ]

-- facts that join some, and are as programs make them, if these are
pub made_more : (old new : List Fact) (k : Fact) → AreFacts old → IsFact k → Joins old (k ∷ []) new → AreFacts new
made_more old new k made is joins f h = elim ((joins f).0 h) [ inl before ↦ made f before | inr one ↦ subst IsFact (only k f one) is ]

pub made_less : (old new : List Fact) (k : Fact) → AreFacts old → ((f : Fact) → Contains new f ↔ (Contains old f × (f ≢ k))) → AreFacts new
made_less old new k made left f h = made f ((left f).0 h).0

pub made_same : (old new : List Fact) → new ≡ old → AreFacts old → AreFacts new
made_same old new same made = subst AreFacts (sym same) made

-- the same of a set in any order in which each fact has its own place
module _ {order : Fact → Fact → Ordering} (total : IsTotalOrder order) (exact : (a b : Fact) → order a b ≡ Equal → a ≡ b) where
  there_in : (s : BTreeSet Fact) (f : Fact) → Contains s.keys f → IsTrue (contains order s f)
  there_in s f h = (btree_set_contains_iff total exact s f).1 h

  in_there : (s : BTreeSet Fact) (f : Fact) → IsTrue (contains order s f) → Contains s.keys f
  in_there s f h = (btree_set_contains_iff total exact s f).0 h

  at : (k f : Fact) → is_at (order k) f ≡ true → k ≡ f
  at k f h = exact k f (equal_is (order k f) h)

  is_there : (k f : Fact) → k ≡ f → is_at (order k) f ≡ true
  is_there k f same =
      let e : order k f ≡ Equal = subst (λ (x : Fact). order k x ≡ Equal) same (tied_itself total k) in
      ap is_eq e

  -- the set with a fact more has the facts of both
  pub joins_fact : (p p2 : BTreeSet Fact) (k : Fact) → Updates order p p2 k true → Joins p.keys (k ∷ []) p2.keys
  joins_fact p p2 k updates f = (
    λ h. elim (true_cases (is_at (order k) f) (contains order p f) (sym (updates.0 f) ∙ there_in p2 f h)) [
      | inl here ↦ inr (subst (Contains (k ∷ [])) (at k f here) (Contains-push [] k))
      | inr old ↦ inl (in_there p f old)
    ],
    λ h. in_there p2 f (updates.0 f ∙ elim h [
      | inl old ↦ cond_right (is_at (order k) f) (contains order p f) (there_in p f old)
      | inr new ↦ ap (λ b. cond b true (contains order p f)) (is_there k f (only k f new))
    ]),
  )

  -- the set with a fact less has the others
  pub leaves_fact : (p p2 : BTreeSet Fact) (k : Fact) → Updates order p p2 k false → (f : Fact) → Contains p2.keys f ↔ (Contains p.keys f × (f ≢ k))
  leaves_fact p p2 k updates f = (
    λ h.
        let there = sym (updates.0 f) ∙ there_in p2 f h in (
          in_there p f (cond_less (is_at (order k) f) (contains order p f) there),
          λ same. cond_not (is_at (order k) f) (contains order p f) there (is_there k f (sym same)),
        ),
    λ h. in_there p2 f (updates.0 f ∙ cond_other (is_at (order k) f) (contains order p f) (there_in p f h.0) (λ here. h.1 (sym (at k f here)))),
  )

-- ---- lists of facts, joined

-- first some facts, and then others
pub joins_then : (old xs mid ys new : List Fact) → Joins old xs mid → Joins mid ys new → Joins old (xs ++ ys) new
joins_then old xs mid ys new h g f = (
  λ is. elim ((g f).0 is) [
    | inl there ↦ elim ((h f).0 there) [ inl before ↦ inl before | inr one ↦ inr (Contains-append_left xs ys f one) ]
    | inr other ↦ inr (Contains-append_right xs ys f other)
  ],
  λ is. elim is [
    | inl before ↦ (g f).1 (inl ((h f).1 (inl before)))
    | inr one ↦ elim (Contains-append_cases xs ys f one) [ inl a ↦ (g f).1 (inl ((h f).1 (inr a))) | inr b ↦ (g f).1 (inr b) ]
  ],
)

pub joins_none : (old : List Fact) → Joins old [] old
joins_none old f = (λ h. inl h, λ h. elim h [ inl there ↦ there | inr none ↦ absurd (none_in f none) ])

-- what joined some facts to others did so to the same ones
pub joins_same : (old more new other : List Fact) → Joins old more new → HasSame new other → Joins old more other
joins_same old more new other joins same f = (λ h. (joins f).0 ((same f).0 h), λ h. (same f).1 ((joins f).1 h))

-- ---- a loop over facts

-- a fact more
pub joins_more : (old facts mid new : List Fact) (i : ℕ) (d : Fact) → i < length facts → Joins old (take i facts) mid
    → Joins mid (get_or facts i d ∷ []) new → Joins old (take (i + 1) facts) new
joins_more old facts mid new i d lt h g =
    subst (λ (fs : List Fact). Joins old fs new) (sym (take_more facts i d lt)) (joins_then old (take i facts) mid (get_or facts i d ∷ []) new h g)

-- ---- a loop over packs

facts_push : (ps : List PackFacts) (p : PackFacts) → facts_in (ps ++ p ∷ []) ≡ facts_in ps ++ p.facts
facts_push [] p = append-nil p.facts
facts_push (q ∷ ps) p = ap (λ fs. q.facts ++ fs) (facts_push ps p) ∙ sym (append_assoc q.facts (facts_in ps) p.facts)

pub facts_of_more : (packs : List PackFacts) (i : ℕ) (p : PackFacts) → i < length packs → p ≡ get_or packs i p
    → facts_in (take (i + 1) packs) ≡ facts_in (take i packs) ++ p.facts
facts_of_more packs i p lt at =
    ap facts_in (take_more packs i p lt) ∙ ap (λ q. facts_in (take i packs ++ q ∷ [])) (sym at) ∙ facts_push (take i packs) p

pub facts_split : (ps qs : List PackFacts) → facts_in (ps ++ qs) ≡ facts_in ps ++ facts_in qs
facts_split [] qs = refl
facts_split (p ∷ ps) qs = ap (λ fs. p.facts ++ fs) (facts_split ps qs) ∙ sym (append_assoc p.facts (facts_in ps) (facts_in qs))

-- the facts of a pack more
pub joins_pack : (old mid new : List Fact) (packs : List PackFacts) (i : ℕ) (p : PackFacts) → i < length packs → p ≡ get_or packs i p
    → Joins old (facts_in (take i packs)) mid → Joins mid p.facts new → Joins old (facts_in (take (i + 1) packs)) new
joins_pack old mid new packs i p lt at h g =
    subst (λ (fs : List Fact). Joins old fs new) (sym (facts_of_more packs i p lt at)) (joins_then old (facts_in (take i packs)) mid p.facts new h g)

-- ---- facts that are noted as they are added

-- a fact that was there
pub grew_known : (base noted old : List Fact) (now : List Fact) → now ≡ old → Grew base noted old → Grew base noted now
grew_known base noted old now same g = subst (λ fs. Grew base noted fs) (sym same) g

-- a fact that is new
pub grew_new : (base noted old now more : List Fact) (f : Fact) → more ≡ noted ++ f ∷ [] → Joins old (f ∷ []) now → ¬ Contains old f → Grew base noted old → Grew base more now
grew_new base noted old now more f e joins absent g = subst (λ ns. Grew base ns now) (sym e) (record {
  all = joins_then base noted old (f ∷ []) now g.all joins;
  apart = λ x h. elim (Contains-append_cases noted (f ∷ []) x h) [
    | inl before ↦ g.apart x before
    | inr new ↦ λ b. absent (subst (Contains old) (sym (only f x new)) ((g.all x).1 (inl b)))
  ];
})

-- without those noted it is what it was
pub taken_whole : (base noted now new : List Fact) → Grew base noted now → ((f : Fact) → Contains new f ↔ (Contains now f × ¬ Contains noted f)) → HasSame base new
taken_whole base noted now new g left f = (
  λ h. let is = (left f).0 h in elim ((g.all f).0 is.0) [ inl before ↦ before | inr one ↦ absurd (is.1 one) ],
  λ h. (left f).1 ((g.all f).1 (inl h), λ one. g.apart f one h),
)

-- one more of those noted is removed
pub taken_more : (now mid new noted : List Fact) (i : ℕ) (d : Fact) → i < length noted → ((f : Fact) → Contains mid f ↔ (Contains now f × ¬ Contains (take i noted) f))
    → ((f : Fact) → Contains new f ↔ (Contains mid f × (f ≢ get_or noted i d))) → (f : Fact) → Contains new f ↔ (Contains now f × ¬ Contains (take (i + 1) noted) f)
taken_more now mid new noted i d lt h g f =
    subst (λ (fs : List Fact). Contains new f ↔ (Contains now f × ¬ Contains fs f)) (sym (take_more noted i d lt)) (
      λ is.
          let one = (g f).0 is in
          let two = (h f).0 one.0 in (
            two.0,
            λ among. elim (Contains-append_cases (take i noted) (get_or noted i d ∷ []) f among) [
              | inl a ↦ two.1 a
              | inr b ↦ one.1 (sym (only (get_or noted i d) f b))
            ],
          ),
      λ is. (g f).1 (
        (h f).1 (is.0, λ a. is.1 (Contains-append_left (take i noted) (get_or noted i d ∷ []) f a)),
        λ same.
            is.1 (Contains-append_right (take i noted) (get_or noted i d ∷ []) f (subst (Contains (get_or noted i d ∷ [])) (sym same) (Contains-push [] (get_or noted i d)))),
      ),
    )

pub taken_none : (now : List Fact) (f : Fact) → Contains now f ↔ (Contains now f × ¬ Contains [] f)
taken_none now f = (λ h. (h, none_in f), λ h. h.0)

-- nothing is noted yet
pub grew_none : (old : List Fact) → Grew old [] old
grew_none old = record { all = joins_none old; apart = λ f h. absurd (none_in f h) }
