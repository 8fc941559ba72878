-- What is told of trees by what is known of them.
use Rattle.std.proofs.Common.{arith, ◌≡◌, ◌≤◌, [], Bool, IsTrue, true, false, List, Option, Some, None, refl, sym, ap, subst, inl, inr, ⊎_elim, ◌⊎◌, ◌↔◌, ◌∙◌, Contains}
use Rattle.std.proofs.lemmas.Option.{same_Some}
use Rattle.repo_name.specs.declared.kinds.BlobKind.TheVariants.{Content, Tree}
use Rattle.repo_name.specs.declared.names.Name.{Name}
use Rattle.repo_index.specs.IndexText.{fact_of}
use Rattle.repo_index.specs.declared.facts.Fact.{Fact}
use Rattle.repo_pack.specs.declared.places.Place.{Place}
use Rattle.repo_reach.specs.Joints.{MayFollow, tree_next}
use Rattle.repo_reach.proofs.Reading.{wrong_order}
use Rattle.repo_session.specs.Traces.{Trace}
use Rattle.repo_session.specs.Trees.{GoesWrong}
use Rattle.repo_session.specs.declared.outcomes.FaultKind.{FaultKind}
use Rattle.repo_tree.specs.Parts.{Blobs, IsPart, IsPartText}
use Rattle.repo_tree.specs.Spelling.{greatest_depth}
use Rattle.repo_check.specs.Answers.{Answer, Gathered, IsDeepest, IsFollowed, LiesAt, TreesOf}
use Rattle.repo_check.specs.Findings.{BlobIs, IsIllTree, TreeIs}
use Rattle.repo_check.specs.Keeping.{next_kept}
use Rattle.repo_check.specs.Measures.{AreGivenFacts, IsFaultyTree, IsReadAs}
use Rattle.repo_check.specs.Surveys.{ContentIsTold, IsSurveyed, RoundsView, TreesAreTold, answers_in}
use Rattle.repo_check.specs.Visiting.{Breaks, GoesOnWrong, IsGiven}
use Rattle.repo_check.specs.Walks.{IsSettled, IsTold, WalkView, tree_fault}
use Rattle.repo_check.specs.declared.keeping.Kept.{Kept}
use Rattle.repo_check.specs.declared.visiting.Gift.{Gift}
use Rattle.repo_check.specs.declared.visiting.Visit.{Visit}
use Rattle.repo_check.proofs.Ascending.{may_nodes, may_order, next_follows}
use Rattle.repo_check.proofs.Gathered.{came_in, contains_of, given_of, lies_of}
use Rattle.repo_check.proofs.Led.{deepest_by, followed_by}
use Rattle.repo_check.proofs.Reached.{found_of, of_deepest, of_followed, settled}
use Rattle.repo_check.proofs.KeptReads.{kept_part, no_part_said, part_kept, part_said}

no_some : {X : Type 0} (o : Option X) (x : X) → o ≡ None → o ≡ Some x → ⊥
no_some o x none some = absurd (cc (none, some))

-- a tree that is at fault by itself is so whatever else came
faulty_is : (answers : Gathered) (place : Place) (a : Answer) (what : FaultKind) → IsFaultyTree place a what → TreeIs answers place a (Some what)
faulty_is answers place a FaultKind.Missing h = h
faulty_is answers place a FaultKind.Name h = h
faulty_is answers place a FaultKind.Unreadable h = (h.0, h.1.0, h.1.1, inl h.2)
faulty_is answers place a FaultKind.Place h = h
faulty_is answers place a FaultKind.Unindexed h = h

-- sizes that are wrong
wrong_is : (answers : Gathered) (facts : List Fact) (place : Place) (a : Answer) (kept : Kept) → AreGivenFacts answers facts → IsReadAs facts place a kept false → TreeIs answers place a (Some FaultKind.Unreadable)
wrong_is answers facts place a kept given r =
    (r.bytes, r.has.0, r.has.1, inr (r.nodes, r.tree, elim ((r.judged answers given).ill refl) [ inl uneven ↦ inl uneven | inr sizes ↦ inr (inr (inl sizes)) ]))

bare_or : (b : Bool) → (b ≡ true) ⊎ (b ≡ false)
bare_or true = inl refl
bare_or false = inr refl

no_yes : (b : Bool) → b ≡ false → IsTrue b → ⊥
no_yes b isnt is = absurd (cc (is, isnt))

module _ (rounds : RoundsView) (walk : WalkView) (es : Trace) (s : IsSurveyed rounds walk es) where
  abbrev A : Gathered
  A = answers_in s

  given : AreGivenFacts A walk.known.facts
  given fact = (given_of rounds walk es (came_in s) fact, contains_of rounds walk es (came_in s) fact)

  -- ---- a tree that breaks its directory is ill

  abbrev visits : List Visit
  visits = walk.visits

  abbrev T : Blobs
  T = TreesOf A

  deep_at : (v : Visit) → Contains visits v → greatest_depth ≤ v.depth → v.depth ≡ greatest_depth
  deep_at v c deep = let few = (s.over.led v c).1 in omega (arith, deep, few)

  -- a part goes on wrong in another one
  wrong_parts : (v : Visit) (n : Name) → GoesOnWrong walk.known.kept v n → GoesWrong 2 T v.tree n
  wrong_parts v n (before, behind, is, next, there, (right, wrong)) =
      let goes = (next_follows before v.follows n next).1 in
      let first = kept_part rounds walk es (came_in s) v.tree before is (λ m. absurd (let e = sym goes ∙ m in cc e)) in
      let second = kept_part rounds walk es (came_in s) n behind there right in
      (first.0, second.0, tree_next behind.joint.next, subst (λ o. IsPart T v.tree first.0 o) (ap tree_next goes) first.1, second.1, wrong_order first.0 second.0 before.joint.ends behind.joint.ends first.2 second.2 wrong)

  module _ (place : Place) (a : Answer) (kept : Kept) (is : walk.known.kept a.name ≡ Some kept) (r : IsReadAs walk.known.facts place a kept true) where
    ill : IsIllTree A a.name r.bytes r.nodes → TreeIs A place a (Some FaultKind.Unreadable)
    ill h = (r.bytes, r.has.0, r.has.1, inr (r.nodes, r.tree, inr h))

    own : (v : Visit) (k : Kept) → v.tree ≡ a.name → walk.known.kept v.tree ≡ Some k → k ≡ kept
    own v k same at = same_Some k kept (sym at ∙ ap walk.known.kept same ∙ is)

    broken_ill : (v : Visit) → Contains visits v → Breaks walk.known.kept v a.name → IsIllTree A a.name r.bytes r.nodes
    broken_ill v c (inl ((k, at, inl (deep, some)), same)) =
        let full : kept.links.is_bare ≡ false = ap (λ (z : Kept). z.links.is_bare) (sym (own v k same at)) ∙ some in
        inl (subst (λ m. IsDeepest A m) same (deepest_by rounds walk es (came_in s) v c (deep_at v c deep)), λ none. no_yes kept.links.is_bare full (r.lead.bare.1 none))
    broken_ill v c (inl ((k, at, inr (follows, bad)), same)) =
        let no = no_part_said r.bytes r.nodes kept.joint.next r.says (ap (λ (z : Kept). z.joint.next) (sym (own v k same at)) ∙ bad) in
        inr (inr (inl (subst (λ m. IsFollowed A m) same (followed_by rounds walk es (came_in s) v c follows), no)))
    broken_ill v c (inr wrong) = inr (inr (inr (v.tree, followed_by rounds walk es (came_in s) v c (next_follows wrong.0 v.follows a.name wrong.3).0, wrong_parts v a.name wrong)))

    -- ---- one that doesn't is well

    module _ (sound : IsGiven Gift.Broken walk.known.kept visits a.name → ⊥) where
      bare : IsDeepest A a.name → r.nodes ≡ []
      bare d =
          let v = of_deepest rounds walk es s a.name d in
          let depth = v.3 in
          elim (bare_or kept.links.is_bare) [
            | inl empty ↦ r.lead.bare.0 empty
            | inr full ↦ absurd (sound (v.0, v.1, inl ((kept, ap walk.known.kept v.2 ∙ is, inl (omega (arith, depth), full)), v.2)))
          ]

      part : IsFollowed A a.name → (next : Option Name) × IsPartText r.bytes r.nodes next
      part f =
          let v = of_followed rounds walk es s a.name f in
          (tree_next kept.joint.next, part_said r.bytes r.nodes kept.joint.next r.says (λ bad. sound (v.0, v.1, inl ((kept, ap walk.known.kept v.2 ∙ is, inr (v.3, bad)), v.2))))

      onward : (before : Name) → IsFollowed A before → GoesWrong 2 T before a.name → ⊥
      onward before f (nodes, more, next, first, second, wrong) =
          let v = of_followed rounds walk es s before f in
          let one = part_kept rounds walk es (came_in s) before nodes (Some a.name) first in
          let two = part_kept rounds walk es (came_in s) a.name more next second in
          let goes : next_kept one.kept v.0.follows ≡ Some a.name = ap (λ f. next_kept one.kept f) v.3 ∙ one.next_is in
          let stands : ¬ MayFollow one.kept.joint.ends two.kept.joint.ends = λ may. ⊎_elim (may_nodes nodes more one.kept.joint.ends two.kept.joint.ends one.ends two.ends may)
          (λ unordered. unordered (may_order nodes more one.kept.joint.ends two.kept.joint.ends first.reads.tree.ordered second.reads.tree.ordered one.ends two.ends may)) wrong in
          sound (v.0, v.1, inr (one.kept, two.kept, ap walk.known.kept v.2 ∙ one.is, goes, two.is, (two.right, stands)))

      well : TreeIs A place a None
      well = (r.bytes, r.nodes, r.has.0, r.has.1, record { len = (r.judged A given).len refl; reads = r.tree }, record { bare = bare; measured = (r.judged A given).well refl; part = part; onward = onward })

    -- by whether it breaks its directory
    right_is : (broken : Bool) → (IsTrue broken ↔ IsGiven Gift.Broken walk.known.kept visits a.name) → TreeIs A place a (tree_fault None (Some kept) broken)
    right_is true b = let g = b.0 refl in ill (broken_ill g.0 g.1 g.2)
    right_is false b = well (λ g. absurd (let yes = b.1 g in cc yes))

  -- what is told of an answer is what is found of it
  told_is : (place : Place) (a : Answer) (l : Option Kept) (f : Option FaultKind) (broken : Bool) → walk.known.kept a.name ≡ l → (IsTrue broken ↔ IsGiven Gift.Broken walk.known.kept visits a.name) → IsTold walk.known.facts place a l f → TreeIs A place a (tree_fault f l broken)
  told_is place a (Some kept) None broken is b told = right_is place a kept is told broken b
  told_is place a (Some kept) (Some what) broken is b told = subst (λ w. TreeIs A place a (Some w)) (sym told.0) (wrong_is A walk.known.facts place a kept given told.1)
  told_is place a None (Some what) broken is b told = faulty_is A place a what told
  told_is place a None None broken is b told = absurd told

  seen_is : (n : Name) (broken : Bool) → (IsTrue broken ↔ IsGiven Gift.Broken walk.known.kept visits n) → (a : Answer) → Contains s.answers a → a.name ≡ n → BlobIs A Tree n (tree_fault (walk.known.faults n) (walk.known.kept n) broken)
  seen_is n broken b a c same =
      let seen = s.reads.seen.each a c in
      let is = told_is seen.place a (walk.known.kept a.name) (walk.known.faults a.name) broken refl (subst (λ m. IsTrue broken ↔ IsGiven Gift.Broken walk.known.kept visits m) (sym same) b) seen.told in
      inr (
        seen.place,
        a,
        subst (λ m. LiesAt A Tree m seen.place) same (lies_of rounds walk es (came_in s) Tree a.name seen.place seen.least),
        c,
        same,
        subst (λ m. TreeIs A seen.place a (tree_fault (walk.known.faults m) (walk.known.kept m) broken)) same is,
      )

  by_settled : (n : Name) (broken : Bool) → (IsTrue broken ↔ IsGiven Gift.Broken walk.known.kept visits n) → (f : Option FaultKind) (l : Option Kept) → walk.known.faults n ≡ f → walk.known.kept n ≡ l → IsSettled walk.known n
      → BlobIs A Tree n (tree_fault (walk.known.faults n) (walk.known.kept n) broken)
  by_settled n broken b f (Some kept) fe le h = (let a = s.reads.seen.kept n kept le in seen_is n broken b a.0 a.1 a.2)
  by_settled n broken b (Some what) None fe le h = (let a = s.reads.seen.faults n what fe in seen_is n broken b a.0 a.1 a.2)
  by_settled n broken b None None fe le (inl read) = absurd (no_some (walk.known.kept n) read.0 le read.1)
  by_settled n broken b None None fe le (inr (inl faulty)) = absurd (no_some (walk.known.faults n) faulty.0 fe faulty.1)
  by_settled n broken b None None fe le (inr (inr nowhere)) =
      let is : BlobIs A Tree n (Some FaultKind.Unindexed) = inl (refl, λ place g. nowhere place (contains_of rounds walk es (came_in s) (fact_of Tree n place) g)) in
      subst (λ f. BlobIs A Tree n (tree_fault f (walk.known.kept n) broken)) (sym fe) (subst (λ l. BlobIs A Tree n (tree_fault None l broken)) (sym le) is)

pub trees_are_told : TreesAreTold
trees_are_told rounds walk es s n broken reached b =
    by_settled rounds walk es s n broken b (walk.known.faults n) (walk.known.kept n) refl refl (settled rounds walk es s n (found_of rounds walk es s Tree n reached))

pub content_is_told : ContentIsTold
content_is_told rounds walk es s n None h = (h.0, lies_of rounds walk es (came_in s) Content n h.0 h.1)
content_is_told rounds walk es s n (Some what) h =
    let lost : BlobIs (answers_in s) Content n (Some FaultKind.Unindexed) = λ place g. h.1 place (contains_of rounds walk es (came_in s) (fact_of Content n place) g) in
    subst (λ w. BlobIs (answers_in s) Content n (Some w)) (sym h.0) lost
