use Rattle.std.proofs.Common.{◌≡◌, ◌++◌, ◌∷◌, [], ℕ, List, Some, None, Result, Ok, Err, IfOk, length, slice_get, ◌-◌, sym, ap, subst, ◌∙◌}
use Rattle.std.proofs.lemmas.Option.{same_Some}
use Rattle.repo_tree.specs.declared.nodes.Node.{Node}
use Rattle.repo_restore.specs.declared.nodes.Level.{Level}
use Rattle.repo_restore.specs.Walking.{NodeHasBegun, IsNextPath}
use Rattle.repo_restore.proofs.Passing.{last_same}
use Rattle.repo_restore.proofs.walks.Walk.next_path.Goals as goal

none_some : (node : Node) → None ≡ Some node → ⊥
none_some node p = absurd (cc)

none_last : (levels items : List Level) (x : Level) → items ≡ levels → Some x ≡ slice_get items (length items - 1) → levels ≡ [] → ⊥
none_last levels items x p q r =
    let e : items ≡ [] = p ∙ r in
    let w : Some x ≡ slice_get [] (length {A = Level} [] - 1) = subst (λ ls. Some x ≡ slice_get ls (length ls - 1)) e q in
    absurd (cc)

joined_path : {E : Type 0} (levels : List Level) (x : Level) (n : Node) (result : Result (List (List ℕ)) E) → (levels ≡ [] → ⊥) → ((above : List Level) (level : Level) → levels ≡ above ++ level ∷ [] → x ≡ level)
    → ((node : Node) → NodeHasBegun x node → n ≡ node) → IfOk result (λ p. p ≡ x.path ++ n.name ∷ []) → IfOk result (IsNextPath levels)
joined_path levels x n (Ok p) none same node h =
    (λ e. absurd (none e), λ above level m e b. let q = same above level e in let r = node m (subst (λ l. NodeHasBegun l m) (sym q) b) in h ∙ ap (λ l. l.path ++ n.name ∷ []) q ∙ ap (λ (y : Node). level.path ++ y.name ∷ []) r)
joined_path levels x n (Err e) none same node h = tt

pub returns-in-None-begun_node : goal.returns-in-None-begun_node
returns-in-None-begun_node c = (
  λ none. c.of-in-None-begun_node.ensures ∙ c.new-in-None-begun_node.ensures.items,
  λ above level node are b.
      let same = last_same c.args.self.now.levels.items c.as_slice.result.now above c.in-Some.level.now level c.as_slice.ensures.value c.in-Some.ensures.value are in
      absurd (none_some node (c.in-None-begun_node.ensures node (subst (λ l. NodeHasBegun l node) (sym same) b))),
)

pub returns-in-Some-begun_node : goal.returns-in-Some-begun_node
returns-in-Some-begun_node c =
    let levels = c.args.self.now.levels.items in
    let x = c.in-Some.level.now in
    joined_path levels x c.in-Some-begun_node.node.now c.path_of.result
    (none_last levels c.as_slice.result.now x c.as_slice.ensures.value c.in-Some.ensures.value)
    (λ above level are. last_same levels c.as_slice.result.now above x level c.as_slice.ensures.value c.in-Some.ensures.value are)
    (λ node b. same_Some c.in-Some-begun_node.node.now node (c.in-Some-begun_node.ensures node b))
    c.path_of.ensures
