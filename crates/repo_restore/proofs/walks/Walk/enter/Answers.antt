use Rattle.std.proofs.Common.{false, ◌≡◌, ◌≢◌, ◌≤◌, ◌<◌, ◌⊎◌, ◌++◌, ◌∷◌, [], ℕ, List, Some, length, refl, sym, subst, inr, ◌∙◌}
use Rattle.repo_name.specs.declared.kinds.BlobKind.{BlobKind}
use Rattle.repo_name.specs.declared.names.Name.{Name}
use Rattle.repo_tree.specs.declared.nodes.Node.{Node}
use Rattle.repo_tree.specs.Spelling.{greatest_depth}
use Rattle.repo_session.specs.declared.emissions.Emission.{Emission}
use Rattle.repo_restore.specs.declared.nodes.Level.{Level}
use Rattle.repo_session.specs.Received.{Received}
use Rattle.repo_restore.specs.Walking.{IsBrokenTree, WaitsByKind, TreeWaitsBy, StopsAt, Turns}
use Rattle.repo_restore.specs.Walks.{PartIs, AtOpen, is_open}
use Rattle.repo_restore.proofs.Refusing.{own_refused}
use Rattle.repo_restore.proofs.Flows.{gave_none}
use Rattle.repo_restore.proofs.Standing.{stopped_none}
use Rattle.repo_session.specs.Rebuilding.{rebuilt, Follow}
use Rattle.repo_restore.proofs.Passing.{path_is, entered}
use Rattle.repo_restore.proofs.Trees.{part_lists}
use Rattle.repo_restore.proofs.Moving.{tree_moves, none_of}
use Rattle.repo_restore.proofs.walks.Walk.enter.Goals as goal

pub returns-then-is_too_deep-clause-ok : goal.returns-then-is_too_deep-clause-ok
returns-then-is_too_deep-clause-ok c = λ gs version root fact old h first k n t none.
    let w = c.args.self.now in
    let B = Received gs in
    let K : BlobKind → Type 0 = λ kind. WaitsByKind kind c.args.lookup.now version (Received gs) root w.levels.items w.sent w.onward fact old in
    let tree = subst (λ o. TreeWaitsBy o version (Received gs) root w.levels.items fact old) first (subst K k h.waits) in
    let at = path_is version (Received gs) root w.levels.items fact.name tree.0 c.in_ok-path.path (rebuilt old) tree.1 c.in_ok-path.ensures in
    let deep = c.is_too_deep.ensures.yes c.if-is_too_deep.true in
    let D : List (List ℕ) → Type 0 = λ p. greatest_depth ≤ length p in
    let N : List Node → Type 0 = λ ns. ns ≢ [] in
    let T : Name → Type 0 = λ m. PartIs version B m c.args.nodes.items c.args.next in
    let unfit = inr (c.args.nodes.items, part_lists version B fact.name c.args.nodes.items c.args.next (subst T (sym n) t), subst N c.as_slice.ensures.value deep.1, subst D at deep.0) in
    let broken = own_refused version B root w.levels.items fact old (subst (λ kind. Follow false old (is_open kind)) k h.order) tree unfit in
    (inr (refl, none, subst (λ m. IsBrokenTree version B root old m) n broken), stopped_none c.args.lookup.now version B root w.levels.items w.sent w.onward w.entries fact old _ none h)

pub returns-in-Ok-clause-ok : goal.returns-in-Ok-clause-ok
returns-in-Ok-clause-ok c = λ gs version root fact old h first k n t none.
    let w = c.args.self.now in
    let levels = w.levels.items in
    let K : BlobKind → Type 0 = λ kind. WaitsByKind kind c.args.lookup.now version (Received gs) root w.levels.items w.sent w.onward fact old in
    let tree = subst (λ o. TreeWaitsBy o version (Received gs) root w.levels.items fact old) first (subst K k h.waits) in
    let at = path_is version (Received gs) root levels fact.name tree.0 c.in_ok-path.path (rebuilt old) tree.1 c.in_ok-path.ensures in
    let level : Level = record { tree = c.args.tree; path = c.in_ok-path.path; nodes = c.args.nodes; next = c.args.next; begun = 0 } in
    let T : Name → Type 0 = λ m. PartIs version (Received gs) m c.args.nodes.items c.args.next in
    let S : List (List ℕ) → Type 0 = λ p. (length p < greatest_depth) ⊎ (c.args.nodes.items ≡ []) in
    let N : List Node → Type 0 = λ ns. (length c.in_ok-path.path < greatest_depth) ⊎ (ns ≡ []) in
    let start = entered version (Received gs) root fact.name levels level tree.0 old tree.1 tree.2 tree.3 (subst T (sym n) t) (sym n) at (subst S at (subst N c.as_slice.ensures.value (c.is_too_deep.ensures.no c.if-is_too_deep.false))) in
    let same : c.as_slice-2.result.now ≡ levels ++ level ∷ [] = c.as_slice-2.ensures.value ∙ c.in_ok-push.ensures.items in
    let A : List Level → Type 0 = λ ls. AtOpen version (Received gs) root ls (length ls) 0 (rebuilt (old ++ [])) in
    let O : List Emission → Type 0 = λ e. AtOpen version (Received gs) root c.as_slice-2.result.now (length c.as_slice-2.result.now) 0 (rebuilt (old ++ e)) in
    let stops = c.in-Ok.ensures.goes gs version root old (subst O (sym none) (subst A (sym same) start)) (gave_none c.args.lookup.now version (Received gs) root false old _ none (subst (λ kind. Follow false old (is_open kind)) k h.order)) in
    let out = c.go_on.new.out.items in
    let stop = c.in-Ok.stop in
    let F : List Level → Type 0 = λ ls. StopsAt c.args.lookup.now version (Received gs) root ls old out stop.depth stop.begun stop.what in
    let G : List Emission → Type 0 = λ e. StopsAt c.args.lookup.now version (Received gs) root c.push.new.self.items old e stop.depth stop.begun stop.what in
    let R : List Emission → Type 0 = λ e. Turns (Some c.args.tree) c.args.lookup.now version (Received gs) root c.stop_at.new.self old e c.stop_at.result in
    subst R c.as_slice-in-Ok.ensures.value (c.stop_at.ensures.turns (Some c.args.tree) c.args.lookup.now gs version root old (subst G (sym c.as_slice-in-Ok.ensures.value) (subst F c.as_slice-2.ensures.value stops)) h.count)

pub returns-in-Ok-clause-moves : goal.returns-in-Ok-clause-moves
returns-in-Ok-clause-moves c =
    let levels = c.args.self.now.levels.items in
    let level : Level = record { tree = c.args.tree; path = c.in_ok-path.path; nodes = c.args.nodes; next = c.args.next; begun = 0 } in
    let same : c.as_slice-2.result.now ≡ levels ++ level ∷ [] = c.as_slice-2.ensures.value ∙ c.in_ok-push.ensures.items in
    tree_moves c.as_slice-2.result.now c.in-Ok.stop.what c.args.out.now.items c.go_on.new.out.items c.args.nodes.items c.stop_at.result c.stop_at.new.self c.in-Ok.ensures.moves c.stop_at.ensures.asks (λ none. none_of c.as_slice-2.result.now levels level same none)
