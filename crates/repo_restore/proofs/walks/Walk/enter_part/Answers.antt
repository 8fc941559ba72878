use Rattle.std.proofs.Common.{false, ◌≡◌, ◌≢◌, ◌<◌, ◌⊎◌, ◌++◌, ◌∷◌, [], List, Some, length, refl, sym, subst, inl, inr, ◌∙◌}
use Rattle.repo_name.specs.declared.kinds.BlobKind.{BlobKind}
use Rattle.repo_name.specs.declared.names.Name.{Name}
use Rattle.repo_tree.specs.declared.nodes.Node.{Node}
use Rattle.repo_tree.specs.Spelling.{greatest_depth}
use Rattle.repo_session.specs.declared.emissions.Emission.{Emission}
use Rattle.repo_restore.specs.declared.nodes.Level.{Level}
use Rattle.repo_session.specs.Received.{Received}
use Rattle.repo_restore.specs.Walking.{MayFollow, IsBrokenTree, WaitsByKind, TreeWaitsBy, StopsAt, Turns}
use Rattle.repo_restore.specs.Walks.{PartIs, AtOpen, is_open}
use Rattle.repo_restore.proofs.Flows.{gave_none}
use Rattle.repo_restore.proofs.Standing.{stopped_none}
use Rattle.repo_session.specs.Rebuilding.{rebuilt, Follow}
use Rattle.repo_restore.proofs.Passing.{entered_part, path_deep, put_twice}
use Rattle.repo_restore.proofs.Refusing.{part_refused}
use Rattle.repo_restore.specs.Moves.{HasNoneBehind}
use Rattle.repo_restore.proofs.Moving.{tree_moves, none_replaced, nodes_move}
use Rattle.repo_restore.proofs.walks.Walk.enter_part.Goals as goal

pub returns-then-is_too_deep-clause-ok : goal.returns-then-is_too_deep-clause-ok
returns-then-is_too_deep-clause-ok c = λ gs version root fact old h onward k n t none.
    let w = c.args.self.now in
    let K : BlobKind → Type 0 = λ kind. WaitsByKind kind c.args.lookup.now version (Received gs) root w.levels.items w.sent w.onward fact old in
    let p = subst (λ o. TreeWaitsBy o version (Received gs) root w.levels.items fact old) onward (subst K k h.waits) in
    let at = c.in_ok-path.ensures p.above p.level p.levels_are in
    let deep = c.is_too_deep.ensures.yes c.if-is_too_deep.true in
    let N : List Node → Type 0 = λ ns. ns ≢ [] in
    let T : Name → Type 0 = λ m. PartIs version (Received gs) m c.args.nodes.items c.args.next in
    let order = subst (λ kind. Follow false old (is_open kind)) k h.order in
    let D : Name → Type 0 = λ m. IsBrokenTree version (Received gs) root old m in
    let broken = subst D n (part_refused version (Received gs) root w.levels.items fact old order c.args.nodes.items c.args.next p (subst T (sym n) t) (inl (path_deep c.in_ok-path.path p.level.path c.args.nodes.items at (deep.0, subst N c.as_slice.ensures.value deep.1)))) in (
      inr (refl, none, broken),
      stopped_none c.args.lookup.now version (Received gs) root w.levels.items w.sent w.onward w.entries fact old _ none h,
    )

pub returns-then-not-come_behind-clause-ok : goal.returns-then-not-come_behind-clause-ok
returns-then-not-come_behind-clause-ok c = λ gs version root fact old h onward k n t none.
    let w = c.args.self.now in
    let K : BlobKind → Type 0 = λ kind. WaitsByKind kind c.args.lookup.now version (Received gs) root w.levels.items w.sent w.onward fact old in
    let p = subst (λ o. TreeWaitsBy o version (Received gs) root w.levels.items fact old) onward (subst K k h.waits) in
    let T : Name → Type 0 = λ m. PartIs version (Received gs) m c.args.nodes.items c.args.next in
    let order = subst (λ kind. Follow false old (is_open kind)) k h.order in
    let D : Name → Type 0 = λ m. IsBrokenTree version (Received gs) root old m in
    let wrong : ¬ MayFollow p.level.nodes.items c.args.nodes.items = λ may. (
    let yes = (c.come_behind.ensures.may p.above p.level (c.as_slice-2.ensures.value ∙ p.levels_are)).1 (subst (MayFollow p.level.nodes.items) (sym c.as_slice-3.ensures.value) may) in
    let no = c.if-not-come_behind.true in
    absurd (cc)) in
    let broken = subst D n (part_refused version (Received gs) root w.levels.items fact old order c.args.nodes.items c.args.next p (subst T (sym n) t) (inr wrong)) in (
      inr (refl, none, broken),
      stopped_none c.args.lookup.now version (Received gs) root w.levels.items w.sent w.onward w.entries fact old _ none h,
    )

pub returns-in-Ok-clause-ok : goal.returns-in-Ok-clause-ok
returns-in-Ok-clause-ok c = λ gs version root fact old h onward k n t none.
    let w = c.args.self.now in
    let levels = w.levels.items in
    let K : BlobKind → Type 0 = λ kind. WaitsByKind kind c.args.lookup.now version (Received gs) root w.levels.items w.sent w.onward fact old in
    let p = subst (λ o. TreeWaitsBy o version (Received gs) root w.levels.items fact old) onward (subst K k h.waits) in
    let at = c.in_ok-path.ensures p.above p.level p.levels_are in
    let level : Level = record { tree = c.args.tree; path = c.in_ok-path.path; nodes = c.args.nodes; next = c.args.next; begun = 0 } in
    let T : Name → Type 0 = λ m. PartIs version (Received gs) m c.args.nodes.items c.args.next in
    let N : List Node → Type 0 = λ ns. (length c.in_ok-path.path < greatest_depth) ⊎ (ns ≡ []) in
    let may = subst (MayFollow p.level.nodes.items) c.as_slice-3.ensures.value ((c.come_behind.ensures.may p.above p.level (c.as_slice-2.ensures.value ∙ p.levels_are)).0 c.if-not-come_behind.false) in
    let start = entered_part version (Received gs) root levels level fact old p (subst T (sym n) t) (sym n) at (subst N c.as_slice.ensures.value (c.is_too_deep.ensures.no c.if-is_too_deep.false)) may in
    let new = p.above ++ level ∷ [] in
    let same : c.as_slice-4.result.now ≡ new = c.as_slice-4.ensures.value ∙ (c.replace_last-before.ensures.some p.above p.level p.levels_are).1 in
    let A : List Level → Type 0 = λ ls. AtOpen version (Received gs) root ls (length ls) 0 (rebuilt (old ++ [])) in
    let O : List Emission → Type 0 = λ e. AtOpen version (Received gs) root c.as_slice-4.result.now (length c.as_slice-4.result.now) 0 (rebuilt (old ++ e)) in
    let stops = c.in-Ok.ensures.goes gs version root old (subst O (sym none) (subst A (sym same) start)) (gave_none c.args.lookup.now version (Received gs) root false old _ none (subst (λ kind. Follow false old (is_open kind)) k h.order)) in
    let out = c.go_on.new.out.items in
    let stop = c.in-Ok.stop in
    let F : List Level → Type 0 = λ ls. StopsAt c.args.lookup.now version (Received gs) root ls old out stop.depth stop.begun stop.what in
    let G : List Emission → Type 0 = λ e. StopsAt c.args.lookup.now version (Received gs) root c.replace_last-before.new.levels.items old e stop.depth stop.begun stop.what in
    let R : List Emission → Type 0 = λ e. Turns (Some c.args.tree) c.args.lookup.now version (Received gs) root c.stop_at.new.self old e c.stop_at.result in
    subst R c.as_slice-in-Ok.ensures.value (c.stop_at.ensures.turns (Some c.args.tree) c.args.lookup.now gs version root old (subst G (sym c.as_slice-in-Ok.ensures.value) (subst F c.as_slice-4.ensures.value stops)) h.count)

pub returns-in-Err-clause-levels : goal.returns-in-Err-clause-levels
returns-in-Err-clause-levels c =
    put_twice c.args.self.now.levels.items c.replace_last-before.new.levels.items c.replace_last.new.levels.items _ c.replace_last-before.result c.replace_last-before.ensures.some c.replace_last-before.ensures.none
    (λ above last are. (c.replace_last.ensures.some above last are).1) c.replace_last.ensures.none

pub returns-in-Ok-clause-moves : goal.returns-in-Ok-clause-moves
returns-in-Ok-clause-moves c =
    let level : Level = record { tree = c.args.tree; path = c.in_ok-path.path; nodes = c.args.nodes; next = c.args.next; begun = 0 } in
    let N : List Node → Type 0 = λ ns. ns ≢ [] in
    let some = subst N c.as_slice-3.ensures.value (c.come_behind.ensures.some c.if-not-come_behind.false) in
    let H : List Level → Type 0 = λ ls. HasNoneBehind ls 0 in
    let moves = tree_moves c.as_slice-4.result.now c.in-Ok.stop.what c.args.out.now.items c.go_on.new.out.items c.args.nodes.items c.stop_at.result c.stop_at.new.self c.in-Ok.ensures.moves c.stop_at.ensures.asks
    (λ none. none_replaced c.args.self.now.levels.items c.replace_last-before.new.levels.items level (λ above last are. (c.replace_last-before.ensures.some above last are).1) c.replace_last-before.ensures.none (subst H c.as_slice-4.ensures.value none)) in
    nodes_move c.args.nodes.items c.go_on.new.out.items c.stop_at.result c.stop_at.new.self some moves
