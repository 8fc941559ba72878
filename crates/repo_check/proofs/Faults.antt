-- The list of all faults.
use Rattle.std.proofs.Common.{arith, ◌≡◌, ◌≢◌, ◌≤◌, ◌⊎◌, ◌++◌, [], ℕ, suc, List, map, Option, Some, None, refl, sym, ap, subst, inl, inr, ◌↔◌, ◌∙◌, Contains}
use Rattle.std.specs.List.Sorted.{IsStrictlySortedBy}
use Rattle.std.proofs.lemmas.List.Elements.{Contains-append_cases, Contains-append_left, Contains-append_right}
use Rattle.repo_name.specs.declared.kinds.BlobKind.{BlobKind}
use Rattle.repo_name.specs.declared.kinds.BlobKind.TheVariants.{Content, Tree}
use Rattle.repo_name.specs.declared.kinds.Kind.{Kind}
use Rattle.repo_name.specs.declared.kinds.Thing.{Thing}
use Rattle.repo_name.specs.declared.names.Name.{Name}
use Rattle.repo_name.proofs.Containing.{none_contained}
use Rattle.repo_store.specs.Pages.{NamesAscend}
use Rattle.repo_session.specs.Traces.{Trace}
use Rattle.repo_session.specs.declared.outcomes.CheckFault.{CheckFault}
use Rattle.repo_session.specs.declared.outcomes.FaultKind.{FaultKind}
use Rattle.repo_check.specs.Answers.{Answer, Gathered, IsReachedBlob}
use Rattle.repo_check.specs.Arrivals.{IsPackOf, IsRootOf}
use Rattle.repo_check.specs.Checking.{AreFaults, AreJudged, AreWell, IsFaultOf, IsFound, OfBlob, OfObject, fault_cmp, rank}
use Rattle.repo_check.specs.Findings.{BlobIs, ObjectIs}
use Rattle.repo_check.specs.Fitting.{facts_by}
use Rattle.repo_check.specs.Gathering.{fault_noted}
use Rattle.repo_check.specs.Rounds.{IsWholeRound, Match, RoundView}
use Rattle.repo_check.specs.Surveys.{IsSurveyed, RoundsView, answers_in}
use Rattle.repo_check.specs.Telling.{AreOfRank, told}
use Rattle.repo_check.specs.Verdicts.{AreReached, AreTold, IsFoundOfIndex, ReachedView, told_of}
use Rattle.repo_check.specs.Walks.{WalkView}
use Rattle.repo_check.proofs.BlobFaults.{blob_found, blobs_told, content_finds, once_found, tree_finds}
use Rattle.repo_check.proofs.Gathered.{matched}
use Rattle.repo_check.proofs.IndexFaults.{both, each_index, indexes_are_told, places_are_told}
use Rattle.repo_check.proofs.ObjectFaults.{each_is, pack_well, packs_are_told, root_well, snapshots_are_told}
use Rattle.repo_check.proofs.Stands.{sorted_ascends}
use Rattle.repo_check.proofs.Tellings.{ranks_ascend, told_ascend, told_are_found}

-- ---- lists by their ranks

-- no rank of the list is above this
Most : List CheckFault → ℕ → Type 0
Most faults r = (fault : CheckFault) → Contains faults fault → rank fault.thing fault.what ≤ r

-- a list in order, with no rank above this
record Sorted (faults : List CheckFault) (r : ℕ) : Type 0 where
  pub ascend : IsStrictlySortedBy fault_cmp faults
  pub most : Most faults r

first_sorted : (faults : List CheckFault) (r : ℕ) → IsStrictlySortedBy fault_cmp faults → AreOfRank faults r → Sorted faults r
unfolding Most
first_sorted faults r ascend ranks = record { ascend = ascend; most = λ f c. (let is = ranks f c in omega (arith, is)) }

more_sorted : (first more : List CheckFault) (r : ℕ) → Sorted first r → IsStrictlySortedBy fault_cmp more → AreOfRank more (suc r) → Sorted (first ++ more) (suc r)
unfolding Most
more_sorted first more r h ascend ranks = record {
  ascend = ranks_ascend first more h.ascend ascend (λ a b c d. (let few = h.most a c in let is = ranks b d in omega (arith, few, is)));
  most = λ f c. elim (Contains-append_cases first more f c) [
    | inl here ↦ (let few = h.most f here in omega (arith, few))
    | inr there ↦ (let is = ranks f there in omega (arith, is))
  ];
}

-- ---- ranks

rank_of : (fault : CheckFault) (thing : Thing) → fault.thing ≡ thing → rank fault.thing fault.what ≡ rank thing fault.what
rank_of fault thing same = ap (λ t. rank t fault.what) same

own_rank : (what : FaultKind) → what ≢ FaultKind.Place → rank Thing.Index what ≡ 1
own_rank FaultKind.Missing h = refl
own_rank FaultKind.Name h = refl
own_rank FaultKind.Unreadable h = refl
own_rank FaultKind.Unindexed h = refl
own_rank FaultKind.Place h = absurd (h refl)

place_or : (what : FaultKind) → (what ≡ FaultKind.Place) ⊎ (what ≢ FaultKind.Place)
place_or FaultKind.Place = inl refl
place_or FaultKind.Missing = inr (λ is. absurd (cc is))
place_or FaultKind.Name = inr (λ is. absurd (cc is))
place_or FaultKind.Unreadable = inr (λ is. absurd (cc is))
place_or FaultKind.Unindexed = inr (λ is. absurd (cc is))

module _ (rounds : RoundsView) (walk : WalkView) (es : Trace) (s : IsSurveyed rounds walk es) where
  abbrev A : Gathered
  A = answers_in s

  round_ascends : {T : Type 0} (k : Kind) (round : RoundView T) → IsWholeRound k round es → NamesAscend None round.names
  round_ascends k round whole = subst (λ (ns : List Name). NamesAscend None ns) whole.paged.listed whole.paged.rise.ascend

  -- ---- objects

  object_fault : (k : Kind) (n : Name) (what : FaultKind) → OfObject A k n (Some what) → (thing : Thing) × IsFound A thing n (Some what)
  object_fault Kind.Pack n what h = (Thing.Pack, h)
  object_fault Kind.Index n what h = (Thing.Index, h)
  object_fault Kind.Snapshot n what h = (Thing.Snapshot, h)

  blob_fault : (k : BlobKind) (n : Name) (what : FaultKind) → OfBlob A k n (Some what) → (thing : Thing) × IsFound A thing n (Some what)
  blob_fault Content n what h = (Thing.Content, h)
  blob_fault Tree n what h = (Thing.Tree, h)

  module _ (reached : ReachedView) (are : AreReached walk reached) (faults : List CheckFault) (h : AreTold rounds walk reached faults) where
    placed : Match (IsFoundOfIndex (facts_by rounds.packs)) rounds.indexes.notes h.objects.places
    placed = h.objects.placed (round_ascends Kind.Pack rounds.packs s.objects.packs)

    abbrev of_snapshots : List CheckFault
    of_snapshots = told_of Thing.Snapshot rounds.snapshots

    abbrev of_indexes : List CheckFault
    of_indexes = told_of Thing.Index rounds.indexes

    abbrev of_packs : List CheckFault
    of_packs = told_of Thing.Pack rounds.packs

    abbrev of_places : List CheckFault
    of_places = told Thing.Index rounds.indexes.names h.objects.places

    abbrev of_content : List CheckFault
    of_content = told Thing.Content reached.content h.blobs.content

    abbrev of_trees : List CheckFault
    of_trees = told Thing.Tree reached.trees h.blobs.trees

    whole : faults ≡ ((((of_snapshots ++ of_indexes) ++ of_packs) ++ of_places) ++ of_content) ++ of_trees
    whole = h.blobs.are ∙ ap (λ (old : List CheckFault). (old ++ of_content) ++ of_trees) h.objects.are

    -- ---- each

    content_told : (fault : CheckFault) → Contains of_content fault ↔ ((fault.thing ≡ Thing.Content) × OfBlob A Content fault.name (Some fault.what))
    content_told fault = blobs_told A Content reached.content h.blobs.content (content_finds rounds walk es s reached are h.blobs.content h.blobs.content_are) (once_found rounds walk es s reached are Content) Thing.Content fault

    trees_told : (fault : CheckFault) → Contains of_trees fault ↔ ((fault.thing ≡ Thing.Tree) × OfBlob A Tree fault.name (Some fault.what))
    trees_told fault = blobs_told A Tree reached.trees h.blobs.trees (tree_finds rounds walk es s reached are h.of_objects faults h.blobs) (once_found rounds walk es s reached are Tree) Thing.Tree fault

    told_fault : (fault : CheckFault) → Contains faults fault → IsFaultOf A fault
    told_fault fault c = elim (Contains-append_cases ((((of_snapshots ++ of_indexes) ++ of_packs) ++ of_places) ++ of_content) of_trees fault (subst (λ fs. Contains fs fault) whole c)) [
      | inl c5 ↦ elim (Contains-append_cases (((of_snapshots ++ of_indexes) ++ of_packs) ++ of_places) of_content fault c5) [
        | inl c4 ↦ elim (Contains-append_cases ((of_snapshots ++ of_indexes) ++ of_packs) of_places fault c4) [
          | inl c3 ↦ elim (Contains-append_cases (of_snapshots ++ of_indexes) of_packs fault c3) [
            | inl c2 ↦ elim (Contains-append_cases of_snapshots of_indexes fault c2) [
              | inl c1 ↦ ((snapshots_are_told rounds walk es s fault).0 c1).1
              | inr own ↦ ((indexes_are_told rounds walk es s h.objects.places fault placed).0 own).2
            ]
            | inr pack ↦ ((packs_are_told rounds walk es s fault).0 pack).1
          ]
          | inr place ↦ ((places_are_told rounds walk es s h.objects.places fault placed).0 place).2
        ]
        | inr content ↦ (let t = (content_told fault).0 content in subst (λ thing. IsFound A thing fault.name (Some fault.what)) (sym t.0) t.1)
      ]
      | inr tree ↦ (let t = (trees_told fault).0 tree in subst (λ thing. IsFound A thing fault.name (Some fault.what)) (sym t.0) t.1)
    ]

    in_snapshots : (fault : CheckFault) → Contains of_snapshots fault → Contains faults fault
    in_snapshots fault c = subst (λ fs. Contains fs fault) (sym whole) (Contains-append_left ((((of_snapshots ++ of_indexes) ++ of_packs) ++ of_places) ++ of_content) of_trees fault
        (Contains-append_left (((of_snapshots ++ of_indexes) ++ of_packs) ++ of_places) of_content fault (Contains-append_left ((of_snapshots ++ of_indexes) ++ of_packs) of_places fault
        (Contains-append_left (of_snapshots ++ of_indexes) of_packs fault (Contains-append_left of_snapshots of_indexes fault c)))))

    in_indexes : (fault : CheckFault) → Contains of_indexes fault → Contains faults fault
    in_indexes fault c = subst (λ fs. Contains fs fault) (sym whole) (Contains-append_left ((((of_snapshots ++ of_indexes) ++ of_packs) ++ of_places) ++ of_content) of_trees fault
        (Contains-append_left (((of_snapshots ++ of_indexes) ++ of_packs) ++ of_places) of_content fault (Contains-append_left ((of_snapshots ++ of_indexes) ++ of_packs) of_places fault
        (Contains-append_left (of_snapshots ++ of_indexes) of_packs fault (Contains-append_right of_snapshots of_indexes fault c)))))

    in_packs : (fault : CheckFault) → Contains of_packs fault → Contains faults fault
    in_packs fault c = subst (λ fs. Contains fs fault) (sym whole) (Contains-append_left ((((of_snapshots ++ of_indexes) ++ of_packs) ++ of_places) ++ of_content) of_trees fault
        (Contains-append_left (((of_snapshots ++ of_indexes) ++ of_packs) ++ of_places) of_content fault (Contains-append_left ((of_snapshots ++ of_indexes) ++ of_packs) of_places fault
        (Contains-append_right (of_snapshots ++ of_indexes) of_packs fault c))))

    in_places : (fault : CheckFault) → Contains of_places fault → Contains faults fault
    in_places fault c = subst (λ fs. Contains fs fault) (sym whole) (Contains-append_left ((((of_snapshots ++ of_indexes) ++ of_packs) ++ of_places) ++ of_content) of_trees fault
        (Contains-append_left (((of_snapshots ++ of_indexes) ++ of_packs) ++ of_places) of_content fault (Contains-append_right ((of_snapshots ++ of_indexes) ++ of_packs) of_places fault c)))

    in_content : (fault : CheckFault) → Contains of_content fault → Contains faults fault
    in_content fault c = subst (λ fs. Contains fs fault) (sym whole) (Contains-append_left ((((of_snapshots ++ of_indexes) ++ of_packs) ++ of_places) ++ of_content) of_trees fault
        (Contains-append_right (((of_snapshots ++ of_indexes) ++ of_packs) ++ of_places) of_content fault c))

    in_trees : (fault : CheckFault) → Contains of_trees fault → Contains faults fault
    in_trees fault c = subst (λ fs. Contains fs fault) (sym whole) (Contains-append_right ((((of_snapshots ++ of_indexes) ++ of_packs) ++ of_places) ++ of_content) of_trees fault c)

    fault_told : (thing : Thing) (fault : CheckFault) → fault.thing ≡ thing → IsFound A thing fault.name (Some fault.what) → Contains faults fault
    fault_told Thing.Pack fault same is = in_packs fault ((packs_are_told rounds walk es s fault).1 (same, subst (λ thing. IsFound A thing fault.name (Some fault.what)) (sym same) is))
    fault_told Thing.Snapshot fault same is = in_snapshots fault ((snapshots_are_told rounds walk es s fault).1 (same, subst (λ thing. IsFound A thing fault.name (Some fault.what)) (sym same) is))
    fault_told Thing.Content fault same is = in_content fault ((content_told fault).1 (same, is))
    fault_told Thing.Tree fault same is = in_trees fault ((trees_told fault).1 (same, is))
    fault_told Thing.Index fault same is =
        let of = subst (λ thing. IsFound A thing fault.name (Some fault.what)) (sym same) is in
        elim (place_or fault.what) [
          | inl place ↦ in_places fault ((places_are_told rounds walk es s h.objects.places fault placed).1 (same, place, of))
          | inr own ↦ in_indexes fault ((indexes_are_told rounds walk es s h.objects.places fault placed).1 (same, own, of))
        ]

    -- ---- in order

    told_sorted : (thing : Thing) (names : List Name) (found : List (Option FaultKind)) (r : ℕ) → NamesAscend None names → ((fault : CheckFault) → Contains (told thing names found) fault → rank thing fault.what ≡ r)
        → IsStrictlySortedBy fault_cmp (told thing names found) × AreOfRank (told thing names found) r
    told_sorted thing names found r ascends of =
        let ranks : AreOfRank (told thing names found) r = λ fault c. rank_of fault thing ((told_are_found thing names found fault).0 c).0 ∙ of fault c in
        (told_ascend thing names found r ascends ranks, ranks)

    sorted : Sorted faults 5
    sorted =
        let a = told_sorted Thing.Snapshot rounds.snapshots.names (map fault_noted rounds.snapshots.notes) 0 (round_ascends Kind.Snapshot rounds.snapshots s.objects.snapshots) (λ f c. refl) in
        let indexes = round_ascends Kind.Index rounds.indexes s.objects.indexes in
        let b = told_sorted Thing.Index rounds.indexes.names (map fault_noted rounds.indexes.notes) 1 indexes (λ f c. own_rank f.what ((indexes_are_told rounds walk es s h.objects.places f placed).0 c).1) in
        let d = told_sorted Thing.Pack rounds.packs.names (map fault_noted rounds.packs.notes) 2 (round_ascends Kind.Pack rounds.packs s.objects.packs) (λ f c. refl) in
        let e = told_sorted Thing.Index rounds.indexes.names h.objects.places 3 indexes (λ f c. ap (λ what. rank Thing.Index what) ((places_are_told rounds walk es s h.objects.places f placed).0 c).1) in
        let g = told_sorted Thing.Content reached.content h.blobs.content 4 (sorted_ascends reached.content are.content.ascend) (λ f c. refl) in
        let t = told_sorted Thing.Tree reached.trees h.blobs.trees 5 (sorted_ascends reached.trees are.trees.ascend) (λ f c. refl) in
        let one = first_sorted of_snapshots 0 a.0 a.1 in
        let two = more_sorted of_snapshots of_indexes 0 one b.0 b.1 in
        let three = more_sorted (of_snapshots ++ of_indexes) of_packs 1 two d.0 d.1 in
        let four = more_sorted ((of_snapshots ++ of_indexes) ++ of_packs) of_places 2 three e.0 e.1 in
        let five = more_sorted (((of_snapshots ++ of_indexes) ++ of_packs) ++ of_places) of_content 3 four g.0 g.1 in
        let six = more_sorted ((((of_snapshots ++ of_indexes) ++ of_packs) ++ of_places) ++ of_content) of_trees 4 five t.0 t.1 in
        subst (λ fs. Sorted fs 5) (sym whole) six

    pub are_faults : AreFaults A faults
    are_faults = record {
      each = λ fault. (told_fault fault, λ is. fault_told fault.thing fault refl is);
      ascend = sorted.ascend;
    }

    -- ---- judged, and well

    pub judged : AreJudged A
    judged Kind.Snapshot a c =
        let m = matched (λ (b : Answer). ObjectIs A Kind.Snapshot b) s.notes.snapshots.answers (map fault_noted rounds.snapshots.notes) (each_is A Kind.Snapshot IsRootOf (root_well A) s.notes.snapshots.answers rounds.snapshots.notes s.notes.snapshots.noted) a c in
        (m.0, m.2)
    judged Kind.Index a c =
        let m = matched (λ (b : Answer). ObjectIs A Kind.Index b) s.notes.indexes.answers (both rounds.indexes.notes h.objects.places) (each_index rounds walk es s s.notes.indexes.answers rounds.indexes.notes h.objects.places s.notes.indexes.noted placed) a c in
        (m.0, m.2)
    judged Kind.Pack a c =
        let m = matched (λ (b : Answer). ObjectIs A Kind.Pack b) s.notes.packs.answers (map fault_noted rounds.packs.notes) (each_is A Kind.Pack IsPackOf (pack_well A) s.notes.packs.answers rounds.packs.notes s.notes.packs.noted) a c in
        (m.0, m.2)

    module _ (none : faults ≡ []) where
      no_fault : (thing : Thing) (n : Name) (what : FaultKind) → IsFound A thing n (Some what) → ⊥
      no_fault thing n what is =
          let fault : CheckFault = record { thing = thing; name = n; what = what } in
          none_contained fault (subst (λ fs. Contains fs fault) none (fault_told thing fault refl is))

      well_object : (k : Kind) (a : Answer) → Contains (A.objects k) a → (f : Option FaultKind) → ObjectIs A k a f → ObjectIs A k a None
      well_object k a c None is = is
      well_object k a c (Some what) is = (let f = object_fault k a.name what (a, c, refl, is) in absurd (no_fault f.0 a.name what f.1))

      well_blob : (k : BlobKind) (n : Name) → IsReachedBlob A k n → (f : Option FaultKind) → BlobIs A k n f → BlobIs A k n None
      well_blob k n r None is = is
      well_blob k n r (Some what) is = (let f = blob_fault k n what (r, is) in absurd (no_fault f.0 n what f.1))

      found_blob : (k : BlobKind) (n : Name) → IsReachedBlob A k n → (f : Option FaultKind) × BlobIs A k n f
      found_blob Content n r = (let b = blob_found A Content reached.content h.blobs.content (content_finds rounds walk es s reached are h.blobs.content h.blobs.content_are) n r in (b.1, b.4))
      found_blob Tree n r = (let b = blob_found A Tree reached.trees h.blobs.trees (tree_finds rounds walk es s reached are h.of_objects faults h.blobs) n r in (b.1, b.4))

      pub are_well : AreWell A
      are_well = record {
        objects = λ k a c. (let j = judged k a c in well_object k a c j.0 j.1);
        blobs = λ k n r. (let f = found_blob k n r in well_blob k n r f.0 f.1);
      }
