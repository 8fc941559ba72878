use Rattle.std.proofs.Common.{arith, ◌≡◌, ◌+◌, ◌-◌, ◌++◌, ℕ, suc, length, take, slice_get, Some, inl, inr, refl, subst}
use Rattle.std.proofs.lemmas.Option.{slice_get_read}
use Rattle.repo_session.specs.Rebuilding.{rebuilt}
use Rattle.repo_restore.proofs.Begins.{at_level, level_stands, level_done}
use Rattle.repo_restore.proofs.Standing.{level_stopped}
use Rattle.repo_session.specs.Received.{Received}
use Rattle.repo_restore.specs.Walks.{AtOpen}
use Rattle.repo_restore.proofs.Moving.{level_moves}
use Rattle.repo_restore.proofs.steps.go_on.Goals as goal

pub loop-up-preserved : goal.loop-up-preserved
loop-up-preserved c =
    let levels = c.args.levels.now in
    let depth = length levels - 1 - c.loop-up.up in
    let x = c.index-levels-depth.result in
    let many : suc depth + c.loop-up.up ≡ length levels = omega arith in
    let got : slice_get levels depth ≡ Some x = slice_get_read levels (length levels) depth x refl (omega arith) c.index-levels-depth.is in (
      λ gs version root old start given. (
          let so = c.loop-up.invariant.0 gs version root old start given in
          let h = at_level version (Received gs) root levels depth c.loop-up.begun x (rebuilt (old ++ c.loop-up.out.items)) got (so.0 (suc depth) many) in
          let next = rw c.in-Done.is at (c.in_ok-next.ensures.begins gs version root h.first h.before old (level_stands c.args.lookup.now version (Received gs) root levels depth c.loop-up.begun x old c.loop-up.out.items h so.1)) in
          let closed = level_done c.args.lookup.now version (Received gs) root levels depth c.loop-up.begun c.begun_above-begun.result x old c.loop-up.out.items c.begin_next.new.out.items h next.0 next.1 c.begun_above-begun.ensures in (
            λ k e. (let same : depth ≡ k = omega arith in let P : ℕ → Type 0 = λ d. AtOpen version (Received gs) root levels d c.begun_above-begun.result (rebuilt (old ++ c.begin_next.new.out.items)) in subst P same closed),
            next.0.given,
          )),
      inr (level_moves levels depth c.args.begun c.loop-up.up c.loop-up.begun x c.args.out.now.items c.loop-up.out.items c.begin_next.new.out.items got many c.loop-up.invariant.1 (rw c.in-Done.is at c.in_ok-next.ensures.moves)),
    )

pub returns-in-Waits-clause-goes : goal.returns-in-Waits-clause-goes
returns-in-Waits-clause-goes c = λ gs version root old start given.
    let levels = c.args.levels.now in
    let depth = length levels - 1 - c.loop-up.up in
    let x = c.index-levels-depth.result in
    let so = c.loop-up.invariant.0 gs version root old start given in
    let many : suc depth + c.loop-up.up ≡ length levels = omega arith in
    let got : slice_get levels depth ≡ Some x = slice_get_read levels (length levels) depth x refl (omega arith) c.index-levels-depth.is in
    let h = at_level version (Received gs) root levels depth c.loop-up.begun x (rebuilt (old ++ c.loop-up.out.items)) got (so.0 (suc depth) many) in
    let next = rw c.in-Waits.is at (c.in_ok-next.ensures.begins gs version root h.first h.before old (level_stands c.args.lookup.now version (Received gs) root levels depth c.loop-up.begun x old c.loop-up.out.items h so.1)) in
    (x, h.first, h.before, got, h.leads, next)

pub returns-in-GoesOn-clause-goes : goal.returns-in-GoesOn-clause-goes
returns-in-GoesOn-clause-goes c = λ gs version root old start given.
    let levels = c.args.levels.now in
    let depth = length levels - 1 - c.loop-up.up in
    let x = c.index-levels-depth.result in
    let so = c.loop-up.invariant.0 gs version root old start given in
    let many : suc depth + c.loop-up.up ≡ length levels = omega arith in
    let got : slice_get levels depth ≡ Some x = slice_get_read levels (length levels) depth x refl (omega arith) c.index-levels-depth.is in
    let h = at_level version (Received gs) root levels depth c.loop-up.begun x (rebuilt (old ++ c.loop-up.out.items)) got (so.0 (suc depth) many) in
    let next = rw c.in-GoesOn.is at (c.in_ok-next.ensures.begins gs version root h.first h.before old (level_stands c.args.lookup.now version (Received gs) root levels depth c.loop-up.begun x old c.loop-up.out.items h so.1)) in
    (x, h.first, h.before, got, h.leads, next)

pub returns-in-Ended-clause-goes : goal.returns-in-Ended-clause-goes
returns-in-Ended-clause-goes c = λ gs version root old start given.
    let levels = c.args.levels.now in
    let depth = length levels - 1 - c.loop-up.up in
    let x = c.index-levels-depth.result in
    let so = c.loop-up.invariant.0 gs version root old start given in
    let many : suc depth + c.loop-up.up ≡ length levels = omega arith in
    let got : slice_get levels depth ≡ Some x = slice_get_read levels (length levels) depth x refl (omega arith) c.index-levels-depth.is in
    let h = at_level version (Received gs) root levels depth c.loop-up.begun x (rebuilt (old ++ c.loop-up.out.items)) got (so.0 (suc depth) many) in
    let ends = rw c.in-Ended.is at (c.in_ok-next.ensures.begins gs version root h.first h.before old (level_stands c.args.lookup.now version (Received gs) root levels depth c.loop-up.begun x old c.loop-up.out.items h so.1)) in
    (ends.0 (take depth levels) h.leads, level_stopped c.args.lookup.now version (Received gs) root h.first (take depth levels) x h.before old c.begin_next.new.out.items h.leads ends.1)

pub returns-clause-goes : goal.returns-clause-goes
returns-clause-goes c = λ gs version root old start given.
    let levels = c.args.levels.now in
    let so = c.loop-up.invariant.0 gs version root old start given in
    let none : 0 + c.loop-up.up ≡ length levels = omega arith in
    (so.0 0 none, so.1)

pub loop-up-init : goal.loop-up-init
loop-up-init c = (λ gs version root old start given. (λ k e. (let same : length c.args.levels.now ≡ k = omega arith in let P : ℕ → Type 0 = λ d. AtOpen version (Received gs) root c.args.levels.now d c.args.begun (rebuilt (old ++ c.args.out.now.items)) in subst P same start), given), inl (refl, refl, refl))

pub returns-in-Waits-clause-moves : goal.returns-in-Waits-clause-moves
returns-in-Waits-clause-moves c = rw c.in-Waits.is at c.in_ok-next.ensures.moves

pub returns-in-GoesOn-clause-moves : goal.returns-in-GoesOn-clause-moves
returns-in-GoesOn-clause-moves c =
    let levels = c.args.levels.now in
    let depth = length levels - 1 - c.loop-up.up in
    let x = c.index-levels-depth.result in
    let many : suc depth + c.loop-up.up ≡ length levels = omega arith in
    let got : slice_get levels depth ≡ Some x = slice_get_read levels (length levels) depth x refl (omega arith) c.index-levels-depth.is in
    let moves = rw c.in-GoesOn.is at c.in_ok-next.ensures.moves in
    (moves.0, level_moves levels depth c.args.begun c.loop-up.up c.loop-up.begun x c.args.out.now.items c.loop-up.out.items c.begin_next.new.out.items got many c.loop-up.invariant.1 moves.1)
