use Rattle.std.proofs.Common.{ℕ, ◌+◌, List, [], ◌++◌, length, take, drop, refl, sym, ap, ◌∙◌, subst, append-nil, append_assoc, take-append-drop, arith}
use Rattle.std.proofs.lemmas.List.{take_rest}
use denote.Param.Always.{mut_next}
use Rattle.repo_chunk.specs.Runs.{IsUnderWay}
use Rattle.repo_chunk.proofs.UnderWay.{under_way_more, under_way_cut, fits_more}
use Rattle.repo_chunk.proofs.runs.feed_all.Goals as goal

pub loop-n-init : goal.loop-n-init
loop-n-init g c = (
  c.requires.callable,
  c.requires.held,
  (
    [],
    refl,
    λ start params bytes u.
        let Bytes : List ℕ → Type 0 =
        λ xs. IsUnderWay (goal.F-step g) start params xs c.args.chunker.now c.args.before c.args.report.now in
        subst Bytes (sym (append-nil bytes)) u,
  ),
)

pub loop-n-preserved : goal.loop-n-preserved
loop-n-preserved g c =
    let n : ℕ = c.in-Cut.n in
    let rest : List ℕ = c.loop-n.rest.now in
    let inv = c.loop-n.invariant in
    let front : List ℕ = inv.2.0 in
    let lawful = inv.1.lawful in (
      mut_next g.F.FnMut _ _ _ _ _ c.report.ensures refl inv.0,
      record { rest = []; held = c.in-Cut.ensures.begun; count = refl; lawful = rw c.in-Cut.ensures.params lawful },
      (
        front ++ take n rest,
        ap (λ t. (front ++ take n rest) ++ t) (take_rest rest n)
            ∙ append_assoc front (take n rest) (drop n rest) ∙ ap (λ t. front ++ t) (take-append-drop n rest) ∙ inv.2.1,
        λ start params bytes u.
            let Bytes : List ℕ → Type 0 = λ xs. IsUnderWay (goal.F-step g) start params xs c.feed.new.self 0 c.report.new.self in
            subst Bytes (append_assoc bytes front (take n rest))
            (under_way_cut (goal.F-step g) start params (bytes ++ front) rest c.loop-n.chunker c.feed.new.self c.loop-n.begun
            c.loop-n.report (inv.2.2 start params bytes u) c.in-Cut.ensures.params n c.report.new.self
            c.in-Cut.ensures.within.1 c.in-Cut.ensures.cut c.in-Cut.ensures.begun c.report.ensures),
      ),
    )

pub overflow_add-result : goal.overflow_add-result
overflow_add-result g c =
    let small = fits_more c.loop-n.chunker c.loop-n.begun c.loop-n.rest.now c.loop-n.invariant.1
    c.in_default.ensures.uncut in
    omega arith

pub returns-clause-run : goal.returns-clause-run
returns-clause-run g c = λ start params bytes u.
    let inv = c.loop-n.invariant in
    let Bytes : List ℕ → Type 0 =
    λ xs. IsUnderWay (goal.F-step g) start params xs c.feed.new.self (c.loop-n.begun + length c.loop-n.rest.now) c.loop-n.report in
    subst Bytes (append_assoc bytes inv.2.0 c.loop-n.rest.now ∙ ap (λ t. bytes ++ t) inv.2.1)
    (under_way_more (goal.F-step g) start params (bytes ++ inv.2.0) c.loop-n.rest.now c.loop-n.chunker c.feed.new.self
    c.loop-n.begun c.loop-n.report (inv.2.2 start params bytes u) c.in_default.ensures.params c.in_default.ensures.more)
