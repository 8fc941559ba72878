-- A tree that is refused is broken where it comes next, and so is one that no directory has.
use Rattle.std.proofs.Common.{◌≡◌, ◌≢◌, ◌≤◌, ◌⊎◌, ◌++◌, ◌∷◌, [], ℕ, zero, suc, Bool, true, false, List, Option, Some, length, inl, inr, ⊎_elim, refl, sym, ap, subst, append_assoc, ◌∙◌}
use Rattle.repo_name.specs.Naming as naming
use Rattle.repo_name.specs.declared.kinds.BlobKind.{BlobKind}
use Rattle.repo_name.specs.declared.names.Name.{Name}
use Rattle.repo_index.specs.declared.facts.Fact.{Fact}
use Rattle.repo_tree.specs.declared.nodes.Node.{Node}
use Rattle.repo_tree.specs.Parts.{Blobs, IsPart, IsPartBy}
use Rattle.repo_tree.specs.Spelling.{greatest_depth}
use Rattle.repo_tree.specs.TreeText.{AreInOrder, Follows}
use Rattle.repo_session.specs.declared.emissions.Emission.{Emission}
use Rattle.repo_session.specs.Rebuilding.{Follow}
use Rattle.repo_session.specs.Trees.{Under, IsNoText, GoesWrong, IsBroken}
use Rattle.repo_restore.specs.declared.nodes.Level.{Level}
use Rattle.repo_restore.specs.Positions.{LeadsThrough, ComesBehind, HaveNodes, LaterHaveNodes, nodes_in, IsUnfitAt, IsWrongBehind, IsBrokenInPlace}
use Rattle.repo_restore.specs.Walking.{MayFollow, TreeWaits, PartWaits, TreeWaitsBy, IsBrokenTree}
use Rattle.repo_restore.specs.Walks.{PartIs}
use Rattle.repo_restore.proofs.Nexts.{down_under, through_goes}
use Rattle.repo_restore.proofs.Passing.{nodes_push_part, order_right, all_order}
use Rattle.repo_restore.proofs.Positioning.{own_at, own_path, further_at, further_path, further_nodes}
use Rattle.repo_restore.proofs.Trees.{part_lists, under_onward}

last_less : (nodes : List Node) (first : Node) (more : List Node) → AreInOrder (nodes ++ first ∷ more) → Follows nodes first.name
last_less [] first more o = tt
last_less (n ∷ []) first more o = o.1
last_less (n ∷ k ∷ nodes) first more o = last_less (k ∷ nodes) first more o.2

misplaced : (before nodes behind : List Node) → ¬ MayFollow nodes behind → (behind ≡ []) ⊎ ¬ AreInOrder ((before ++ nodes) ++ behind)
misplaced before nodes [] wrong = inl refl
misplaced before nodes (first ∷ more) wrong = inr (λ o. wrong (last_less nodes first more (order_right before (nodes ++ first ∷ more) (subst AreInOrder (append_assoc before nodes (first ∷ more)) o))))

-- ---- a tree that is waited for, and can't be taken

module _ (version : ℕ) (B : Blobs) (root : Name) (levels : List Level) (fact : Fact) (old : List Emission) (order : Follow false old false) where
  -- as a directory's own
  pub own_refused : (w : TreeWaits version B root levels fact old) → IsUnfitAt version B w.0 fact.name → IsBrokenTree version B root old fact.name
  own_refused w unfit = (w.0, w.2, w.3, inl (own_at version B root old levels fact.name w.0 w.1 w.3 order, own_path version B root old levels fact.name w.0 w.1 w.3 order, unfit))

  -- as the next part of one
  further_refused : (w : PartWaits version B root levels fact old) → IsUnfitAt version B w.level.path fact.name ⊎ IsWrongBehind version B (nodes_in w.opened.parts ++ w.level.nodes.items) fact.name → IsBrokenTree version B root old fact.name
  further_refused w why =
      let own : List Node = w.level.nodes.items in
      let part = subst (λ n. PartIs version B w.level.tree own n) w.goes_on w.opened.read in
      let W : List Node → Type 0 = λ ns. IsWrongBehind version B ns fact.name in (
        w.level.path,
        under_onward version B root w.level.path w.level.tree own fact.name w.opened.under part,
        w.opened.within,
        inr (
          further_at version B root old w.above w.level w.first w.before w.inside w.leads order fact.name w.opened w.goes_on w.whole,
          further_path version B root old w.above w.level w.first w.before w.inside w.leads order fact.name w.opened w.goes_on w.whole,
          ⊎_elim (λ unfit. inl unfit) (λ wrong. inr (subst W (sym (further_nodes version B root old w.above w.level w.first w.before w.inside w.leads order fact.name w.opened w.goes_on w.whole)) wrong)) why,
        ),
      )

  pub part_refused : (nodes : List Node) (next : Option Name) (w : PartWaits version B root levels fact old) → PartIs version B fact.name nodes next → ((greatest_depth ≤ length w.level.path) × (nodes ≢ [])) ⊎ ¬ MayFollow w.level.nodes.items nodes
      → IsBrokenTree version B root old fact.name
  part_refused nodes next w read (inl deep) = further_refused w (inl (inr (nodes, part_lists version B fact.name nodes next read, deep.1, deep.0)))
  part_refused nodes next w read (inr wrong) = further_refused w (inr (nodes, part_lists version B fact.name nodes next read, misplaced (nodes_in w.opened.parts) w.level.nodes.items nodes wrong))

  -- as either, by its text
  pub tree_refused : (onward : Bool) (x : List ℕ) → TreeWaitsBy onward version B root levels fact old → B BlobKind.Tree x → naming.name x ≡ fact.name → IsNoText version x → IsBrokenTree version B root old fact.name
  tree_refused true x w among named none = further_refused w (inl (inl (x, among, named, none)))
  tree_refused false x w among named none = own_refused w (inl (x, among, named, none))

-- ---- a tree that is broken where it comes next

-- the last of some parts goes on in the tree
last_part : (B : Blobs) (first : Name) (parts : List (List Node)) (tree : Name) → LeadsThrough B first parts tree → parts ≢ []
    → (before : List (List Node)) × (own : List Node) × (part : Name) × (parts ≡ before ++ own ∷ []) × LeadsThrough B first before part × IsPart B part own (Some tree)
last_part B first [] tree h some = absurd (some refl)
last_part B first (nodes ∷ []) tree h some = ([], nodes, first, refl, refl, subst (λ n. IsPart B first nodes (Some n)) (sym h.2) h.1)
last_part B first (nodes ∷ more ∷ parts) tree h some =
    let r = last_part B h.0 (more ∷ parts) tree h.2 (λ e. absurd (cc)) in
    (nodes ∷ r.0, r.1, r.2, ap (λ ps. nodes ∷ ps) r.3, (h.0, h.1, r.4), r.5)

last_full : (parts : List (List Node)) (own : List Node) → HaveNodes (parts ++ own ∷ []) → own ≢ []
last_full [] own h = h.0
last_full (part ∷ parts) own h = last_full parts own h.1

later_full : (parts : List (List Node)) (own : List Node) → LaterHaveNodes (parts ++ own ∷ []) → parts ≢ [] → own ≢ []
later_full [] own h some = absurd (some refl)
later_full (first ∷ parts) own h some = last_full parts own h

-- it goes wrong from the last of the parts before it
behind_wrong : (version : ℕ) (B : Blobs) (root first tree : Name) (path : List (List ℕ)) (parts : List (List Node)) → parts ≢ [] → ComesBehind version B first parts tree → LaterHaveNodes parts → AreInOrder (nodes_in parts)
    → ((part : Name) → IsPartBy version B first part → Under version B root path part) → IsWrongBehind version B (nodes_in parts) tree → (part : Name) × Under version B root path part × GoesWrong version B part tree
behind_wrong (suc (suc zero)) B root first tree path parts some behind later ordered under wrong =
    let r = last_part B first parts tree behind some in
    let nodes : List Node = wrong.0 in
    let all : nodes_in parts ≡ nodes_in r.0 ++ r.1 = ap (λ ps. nodes_in ps) r.3 ∙ nodes_push_part r.0 r.1 in
    let join : nodes_in parts ++ nodes ≡ nodes_in r.0 ++ (r.1 ++ nodes) = ap (λ ns. ns ++ nodes) all ∙ append_assoc (nodes_in r.0) r.1 nodes in
    let order = λ (o : AreInOrder (r.1 ++ nodes)). subst AreInOrder (sym join) (all_order r.0 r.1 nodes (later_full r.0 r.1 (subst LaterHaveNodes r.3 later)) (subst AreInOrder all ordered) o) in
    (r.2, under r.2 (through_goes B first r.0 r.2 r.4), (r.1, nodes, wrong.1.0, r.5, wrong.1.1, ⊎_elim (λ none. inl none) (λ no. inr (λ o. no (order o))) wrong.2))
behind_wrong _ B root first tree path parts some behind later ordered under wrong = absurd (some behind.1)

module _ (version : ℕ) (B : Blobs) (root : Name) (emitted : List Emission) (path : List (List ℕ)) (tree : Name) where
  unfit_broken : IsUnfitAt version B path tree → IsBroken version B root path tree
  unfit_broken (inl none) = inl none
  unfit_broken (inr deep) = inr (inl deep)

  -- no directory has it at the path
  pub broken_in_place : IsBrokenInPlace version B root emitted path tree → IsBroken version B root path tree
  broken_in_place (inl own) = unfit_broken own.2
  broken_in_place (inr further) =
      let f = further.0 in
      let under = λ (part : Name) (belongs : IsPartBy version B f.first part). subst (λ p. Under version B root p part) further.1 (down_under version B root [] f.path f.first f.before part f.leads belongs) in
      ⊎_elim (λ unfit. unfit_broken unfit) (λ wrong. inr (inr (behind_wrong version B root f.first tree path f.parts f.some f.behind f.later f.ordered under wrong))) further.2
