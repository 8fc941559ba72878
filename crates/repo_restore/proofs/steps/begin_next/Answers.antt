use Rattle.std.proofs.Common.{arith, ◌≡◌, ◌≤◌, ◌++◌, ◌∷◌, [], length, slice_get, Some, inl, inr, refl}
use Rattle.std.proofs.lemmas.Option.{slice_get_read}
use Rattle.repo_restore.proofs.Flows.{node_stays}
use Rattle.repo_restore.proofs.Begins.{begun_done, begun_waits, begun_ends, stands_all, part_follows}
use Rattle.repo_session.specs.Received.{Received}
use Rattle.repo_restore.proofs.Moving.{node_done, node_waits, part_moves, gives_nodes}
use Rattle.repo_restore.proofs.steps.begin_next.Goals as goal

pub loop-at-preserved : goal.loop-at-preserved
loop-at-preserved c =
    let level = c.args.level.now in
    let b = rw c.in-Done.is at c.in_ok-begin_node.ensures in
    let got : slice_get level.nodes.items c.loop-at.at ≡ Some c.index.result.now = slice_get_read level.nodes.items _ c.loop-at.at c.index.result.now refl (omega (arith, c.loop-at-test.true, c.len-at-end.ensures, level.nodes.ok.0)) c.index.ensures in
    let node = c.index.result.now in (
      λ gs version root first before old h. begun_done c.args.lookup.now version (Received gs) root first level c.loop-at.at before old c.loop-at.out.items c.begin_node.new.out.items node (c.loop-at.invariant.0 gs version root first before old h) got b,
      inl (node_done c.args.lookup.now level.tree (level.path ++ node.name ∷ []) node.what c.loop-at.out.items c.begin_node.new.out.items b),
    )

pub loop-at-init : goal.loop-at-init
loop-at-init c = (λ gs version root first before old h. h, inr (refl, refl))

pub returns-in-Waits-clause-begins : goal.returns-in-Waits-clause-begins
returns-in-Waits-clause-begins c = λ gs version root first before old h.
    let level = c.args.level.now in
    let b = rw c.in-Waits.is at c.in_ok-begin_node.ensures in
    let got : slice_get level.nodes.items c.loop-at.at ≡ Some c.index.result.now = slice_get_read level.nodes.items _ c.loop-at.at c.index.result.now refl (omega (arith, c.loop-at-test.true, c.len-at-end.ensures, level.nodes.ok.0)) c.index.ensures in
    begun_waits c.args.lookup.now version (Received gs) root first level c.loop-at.at before old c.loop-at.out.items c.begin_node.new.out.items c.index.result.now c.in-Waits.fact (c.loop-at.invariant.0 gs version root first before old h) got b

pub returns-in-Ended-clause-begins : goal.returns-in-Ended-clause-begins
returns-in-Ended-clause-begins c = λ gs version root first before old h.
    let level = c.args.level.now in
    let b = rw c.in-Ended.is at c.in_ok-begin_node.ensures in
    let got : slice_get level.nodes.items c.loop-at.at ≡ Some c.index.result.now = slice_get_read level.nodes.items _ c.loop-at.at c.index.result.now refl (omega (arith, c.loop-at-test.true, c.len-at-end.ensures, level.nodes.ok.0)) c.index.ensures in
    begun_ends c.args.lookup.now version (Received gs) root first level c.loop-at.at before old c.loop-at.out.items c.begin_node.new.out.items c.index.result.now c.in-Ended.end (c.loop-at.invariant.0 gs version root first before old h) got b

pub returns-clause-begins : goal.returns-clause-begins
returns-clause-begins c = λ gs version root first before old h.
    let level = c.args.level.now in
    let past : length level.nodes.items ≤ c.loop-at.at = omega (arith, c.loop-at-test.false, c.len-at-end.ensures, level.nodes.ok.0) in
    part_follows c.args.lookup.now version (Received gs) root first level before old c.loop-at.out.items _ c.next_part.result
    (stands_all c.args.lookup.now version (Received gs) root first level c.loop-at.at before old c.loop-at.out.items past (c.loop-at.invariant.0 gs version root first before old h)) c.next_part.ensures

pub returns-in-GoesOn-clause-begins : goal.returns-in-GoesOn-clause-begins
returns-in-GoesOn-clause-begins c = λ gs version root first before old h.
    let level = c.args.level.now in
    let node = c.index.result.now in
    absurd (node_stays c.args.lookup.now level.tree (level.path ++ node.name ∷ []) node.what c.loop-at.out.items c.begin_node.new.out.items c.in-GoesOn.fact (rw c.in-GoesOn.is at c.in_ok-begin_node.ensures))

pub returns-in-Waits-clause-moves : goal.returns-in-Waits-clause-moves
returns-in-Waits-clause-moves c =
    let level = c.args.level.now in
    let node = c.index.result.now in
    node_waits c.args.lookup.now level.tree (level.path ++ node.name ∷ []) node.what c.loop-at.out.items c.begin_node.new.out.items c.in-Waits.fact (rw c.in-Waits.is at c.in_ok-begin_node.ensures)

pub returns-in-GoesOn-clause-moves : goal.returns-in-GoesOn-clause-moves
returns-in-GoesOn-clause-moves c =
    let level = c.args.level.now in
    let node = c.index.result.now in
    absurd (node_stays c.args.lookup.now level.tree (level.path ++ node.name ∷ []) node.what c.loop-at.out.items c.begin_node.new.out.items c.in-GoesOn.fact (rw c.in-GoesOn.is at c.in_ok-begin_node.ensures))

pub returns-clause-moves : goal.returns-clause-moves
returns-clause-moves c =
    let level = c.args.level.now in
    let past : length level.nodes.items ≤ c.loop-at.at = omega (arith, c.loop-at-test.false, c.len-at-end.ensures, level.nodes.ok.0) in
    part_moves c.args.lookup.now level.next c.next_part.result level.nodes.items c.args.begun c.args.out.now.items c.loop-at.out.items c.next_part.ensures (gives_nodes level.nodes.items c.args.begun c.loop-at.at c.args.out.now.items c.loop-at.out.items c.loop-at.invariant.1 past)
