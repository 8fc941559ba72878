-- How a check ends whose survey is over.
use Rattle.std.proofs.Common.{◌≡◌, ◌≢◌, ◌++◌, ◌+◌, ◌∷◌, [], ℕ, List, length, map, refl, sym, ap, subst, inl, inr, ◌↔◌, ◌∙◌, length-append, Contains}
use Rattle.std.specs.List.Sorted.{IsStrictlySortedBy}
use Rattle.std.specs.Cmp.{nat_cmp_total}
use Rattle.std.specs.Ordering.{ordering_then}
use Rattle.std.specs.declared.cmp.Ordering.{Ordering}
use Rattle.std.specs.declared.cmp.Ordering.TheVariants.{Less}
use Rattle.std.proofs.lemmas.Cmp.{tied_itself}
use Rattle.std.proofs.lemmas.List.{length-map}
use Rattle.std.proofs.lemmas.List.Elements.{Contains-append_cases, Contains-append_left, Contains-append_right}
use Rattle.repo_name.specs.Naming.{name_cmp}
use Rattle.repo_name.specs.declared.kinds.BlobKind.{BlobKind}
use Rattle.repo_name.specs.declared.kinds.BlobKind.TheVariants.{Content, Tree}
use Rattle.repo_name.specs.declared.kinds.Kind.{Kind}
use Rattle.repo_name.specs.declared.names.Name.{Name}
use Rattle.repo_name.proofs.Containing.{contains_map, first_contained, later_contained, map_contains}
use Rattle.repo_pack.specs.PackLayout.{kind_number}
use Rattle.repo_session.specs.Traces.{Trace}
use Rattle.repo_session.specs.declared.outcomes.CheckFault.{CheckFault}
use Rattle.repo_session.specs.declared.outcomes.Outcome.{Outcome}
use Rattle.repo_check.specs.Answers.{Gathered, IsReachedBlob}
use Rattle.repo_check.specs.Arrivals.{IsIndexOf, IsPackOf, IsRootOf}
use Rattle.repo_check.specs.Checking.{AreCounts, ArePairs, CheckConcludes, IsAtFault, IsCount, Pair, pair_cmp}
use Rattle.repo_check.specs.Rounds.{IsNoteOf}
use Rattle.repo_check.specs.Surveys.{IsSurveyed, RoundsView, answers_in}
use Rattle.repo_check.specs.Verdicts.{AreReached, AreTold, Counts, ReachedView}
use Rattle.repo_check.specs.Walks.{WalkView}
use Rattle.repo_check.proofs.Faults.{are_faults, are_well, judged}
use Rattle.repo_check.proofs.Matching.{match_length}
use Rattle.repo_check.proofs.Reached.{surveyed_is_received}
use Rattle.repo_check.proofs.Stands.{content_reached, trees_reached}
use Rattle.repo_check.proofs.Tellings.{all_each, each_all}

-- ---- pairs

one_kind : (k : BlobKind) (a b : Name) → name_cmp a b ≡ Less → pair_cmp (record { kind = k; name = a }) (record { kind = k; name = b }) ≡ Less
one_kind k a b less = ap (λ o. ordering_then o (name_cmp a b)) (tied_itself nat_cmp_total (kind_number k)) ∙ less

pairs_sorted : (k : BlobKind) (names : List Name) → IsStrictlySortedBy name_cmp names → IsStrictlySortedBy pair_cmp (map (λ (n : Name). record { kind = k; name = n }) names)
unfolding IsStrictlySortedBy
pairs_sorted k [] h = tt
pairs_sorted k (n ∷ names) h = (
  each_all (λ p. pair_cmp (record { kind = k; name = n }) p ≡ Less) (map (λ (m : Name). record { kind = k; name = m }) names) (λ p c.
      (let from = map_contains (λ (m : Name). record { kind = k; name = m }) names p c in
      subst (λ q. pair_cmp (record { kind = k; name = n }) q ≡ Less) from.2 (one_kind k n from.0 (all_each (λ m. name_cmp n m ≡ Less) names h.0 from.0 from.1)))),
  pairs_sorted k names h.1,
)

sorted_append : {X : Type 0} (cmp : X → X → Ordering) (first more : List X) → IsStrictlySortedBy cmp first → IsStrictlySortedBy cmp more → ((a b : X) → Contains first a → Contains more b → cmp a b ≡ Less) → IsStrictlySortedBy cmp (first ++ more)
unfolding IsStrictlySortedBy
sorted_append cmp [] more h g less = g
sorted_append cmp (a ∷ first) more h g less = (
  each_all (λ x. cmp a x ≡ Less) (first ++ more) (λ x c. elim (Contains-append_cases first more x c) [
    | inl here ↦ all_each (λ y. cmp a y ≡ Less) first h.0 x here
    | inr there ↦ less a x (first_contained a first) there
  ]),
  sorted_append cmp first more h.1 g (λ x y c d. less x y (later_contained a first x c) d),
)

module _ (rounds : RoundsView) (walk : WalkView) (es : Trace) (s : IsSurveyed rounds walk es) (reached : ReachedView) (are : AreReached walk reached) where
  abbrev A : Gathered
  A = answers_in s

  abbrev content : List Pair
  content = map (λ (n : Name). record { kind = Content; name = n }) reached.content

  abbrev trees : List Pair
  trees = map (λ (n : Name). record { kind = Tree; name = n }) reached.trees

  of_kind : (k : BlobKind) (names : List Name) → ((n : Name) → Contains names n ↔ IsReachedBlob A k n) → (p : Pair) → Contains (map (λ (n : Name). record { kind = k; name = n }) names) p → IsReachedBlob A p.kind p.name
  of_kind k names all p c =
      let from = map_contains (λ (n : Name). record { kind = k; name = n }) names p c in
      subst (λ (q : Pair). IsReachedBlob A q.kind q.name) from.2 ((all from.0).0 from.1)

  among : (k : BlobKind) (n : Name) → IsReachedBlob A k n → Contains (content ++ trees) (record { kind = k; name = n })
  among Content n r = Contains-append_left content trees (record { kind = Content; name = n }) (contains_map (λ (m : Name). record { kind = Content; name = m }) reached.content n ((content_reached rounds walk es s reached are n).1 r))
  among Tree n r = Contains-append_right content trees (record { kind = Tree; name = n }) (contains_map (λ (m : Name). record { kind = Tree; name = m }) reached.trees n ((trees_reached rounds walk es s reached are n).1 r))

  apart : (p q : Pair) → Contains content p → Contains trees q → pair_cmp p q ≡ Less
  apart p q c d =
      let from = map_contains (λ (n : Name). record { kind = Content; name = n }) reached.content p c in
      let to = map_contains (λ (n : Name). record { kind = Tree; name = n }) reached.trees q d in
      subst (λ (x : Pair). pair_cmp x q ≡ Less) from.2 (subst (λ (y : Pair). pair_cmp (record { kind = Content; name = from.0 }) y ≡ Less) to.2 refl)

  are_pairs : ArePairs A (content ++ trees)
  are_pairs = record {
    each = λ p. (
      λ c. elim (Contains-append_cases content trees p c) [
        | inl here ↦ of_kind Content reached.content (content_reached rounds walk es s reached are) p here
        | inr there ↦ of_kind Tree reached.trees (trees_reached rounds walk es s reached are) p there
      ],
      λ r. among p.kind p.name r,
    );
    ascend = sorted_append pair_cmp content trees (pairs_sorted Content reached.content are.content.ascend) (pairs_sorted Tree reached.trees are.trees.ascend) apart;
  }

  pair_count : length (content ++ trees) ≡ length reached.content + length reached.trees
  pair_count = length-append content trees ∙ ap (λ k. k + length trees) (length-map reached.content (λ (n : Name). record { kind = Content; name = n })) ∙ ap (λ k. length reached.content + k) (length-map reached.trees (λ (n : Name). record { kind = Tree; name = n }))

  counted : (snapshots indexes packs blobs : ℕ) → IsCount snapshots (length rounds.snapshots.notes) → IsCount indexes (length rounds.indexes.notes) → IsCount packs (length rounds.packs.notes)
      → IsCount blobs (length reached.content + length reached.trees) → AreCounts A snapshots indexes packs blobs
  counted snapshots indexes packs blobs a b c d = record {
    snapshots_are = subst (λ n. IsCount snapshots n) (sym (match_length (IsNoteOf Kind.Snapshot IsRootOf) s.notes.snapshots.answers rounds.snapshots.notes s.notes.snapshots.noted)) a;
    indexes_are = subst (λ n. IsCount indexes n) (sym (match_length (IsNoteOf Kind.Index IsIndexOf) s.notes.indexes.answers rounds.indexes.notes s.notes.indexes.noted)) b;
    packs_are = subst (λ n. IsCount packs n) (sym (match_length (IsNoteOf Kind.Pack IsPackOf) s.notes.packs.answers rounds.packs.notes s.notes.packs.noted)) c;
    pairs = content ++ trees;
    pairs_are = are_pairs;
    blobs_are = subst (λ n. IsCount blobs n) (sym pair_count) d;
  }

  module _ (faults : List CheckFault) (told : AreTold rounds walk reached faults) where
    pub is_clean : (outcome : Outcome) → faults ≡ [] → Counts rounds reached outcome → CheckConcludes es outcome
    is_clean outcome none (snapshots, indexes, packs, blobs, is, a, b, c, d) = subst (λ o. CheckConcludes es o) (sym is) (record {
      answers = A;
      received = surveyed_is_received rounds walk es s;
      well = are_well rounds walk es s reached are faults told none;
      counts = counted snapshots indexes packs blobs a b c d;
    })

    pub is_at_fault : faults ≢ [] → IsAtFault es faults
    is_at_fault some = record {
      answers = A;
      received = surveyed_is_received rounds walk es s;
      judged = judged rounds walk es s reached are faults told;
      are = are_faults rounds walk es s reached are faults told;
      some = some;
    }
