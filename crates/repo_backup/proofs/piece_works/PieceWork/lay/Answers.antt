use Rattle.std.proofs.Common.{arith, ◌≡◌, ◌≤◌, Some, None, ap, subst, ◌∙◌}
use Rattle.repo_backup.specs.PartsMade.{left_count}
use Rattle.repo_backup.specs.Pieces.{LaysOn, LeavesLater}
use Rattle.repo_backup.specs.declared.piece_works.Took.{Took}
use Rattle.repo_backup.proofs.PackingLemmas.{on_any, on_err}
use Rattle.repo_backup.proofs.PartLaying.{still_then, aims_then, later_still, lays_then}
use Rattle.repo_backup.proofs.Staging.{if_ok}
use Rattle.repo_backup.proofs.piece_works.PieceWork.lay.Goals as goal

pub returns-in_err-lay_later-clause-still : goal.returns-in_err-lay_later-clause-still
returns-in_err-lay_later-clause-still c = on_any _ c.from_residual.result (λ st sent h. c.in_err-lay_later.ensures.still st sent (c.loop-self.invariant.lays st sent h))

pub loop-self-preserved : goal.loop-self-preserved
loop-self-preserved c =
    let inv = c.loop-self.invariant in
    let known = c.args.lookup.now in
    let w = c.args.self.now in
    let a = c.loop-self.self in
    let b = c.lay_later.new.self in
    let k = c.in-All-default-None in
    let took : Took = Took.All k.field-0 None in
    let is : c.in_ok-lay_later.field-0 ≡ took = k.is ∙ ap (Took.All k.field-0) k.field-1-is in
    let lays : LaysOn known a took b = subst (λ t. LaysOn known a t b) is c.in_ok-lay_later.ensures.ok in
    let left : LeavesLater known a took b = subst (λ t. LeavesLater known a t b) is c.in_ok-lay_later.ensures.packed in
    let many : 2 ≤ left_count a.parts = omega (arith, c.parts_left.ensures, c.loop-self-test.true) in
    let still = later_still known a b k.field-0 many lays left in
    record {
      still = still_then known w.packing a.packing b.packing inv.still left.1;
      aims = aims_then w.packing a.packing b.packing inv.aims c.lay_later.ensures.aims;
      walk = c.lay_later.ensures.walk ∙ inv.walk;
      some = omega (arith, left.0, many);
      lays = λ st sent h. still st sent (inv.lays st sent h);
    }

pub returns-clause-ok : goal.returns-clause-ok
returns-clause-ok c =
    let inv = c.loop-self.invariant in
    if_ok _ _ c.lay_first.result (λ took lays. lays_then c.args.lookup.now c.args.self.now c.loop-self.self c.lay_first.new.self took inv.lays inv.still.grows.1 inv.walk lays) c.lay_first.ensures.ok

pub returns-clause-still : goal.returns-clause-still
returns-clause-still c = on_err c.lay_first.result _ _ (λ still st sent h. still st sent (c.loop-self.invariant.lays st sent h)) c.lay_first.ensures.still

pub returns-in-All-default-Some-clause-ok : goal.returns-in-All-default-Some-clause-ok
returns-in-All-default-Some-clause-ok c =
    let inv = c.loop-self.invariant in
    let known = c.args.lookup.now in
    let a = c.loop-self.self in
    let b = c.lay_later.new.self in
    let k = c.in-All-default-Some in
    let took : Took = Took.All k.count (Some k.listed) in
    let is : c.in_ok-lay_later.field-0 ≡ took = k.is ∙ ap (Took.All k.count) k.field-1-is in
    lays_then known c.args.self.now a b took inv.lays inv.still.grows.1 inv.walk (subst (λ t. LaysOn known a t b) is c.in_ok-lay_later.ensures.ok)

pub returns-in-TooLarge-clause-ok : goal.returns-in-TooLarge-clause-ok
returns-in-TooLarge-clause-ok c =
    let inv = c.loop-self.invariant in
    let known = c.args.lookup.now in
    let a = c.loop-self.self in
    let b = c.lay_later.new.self in
    lays_then known c.args.self.now a b Took.TooLarge inv.lays inv.still.grows.1 inv.walk (subst (λ t. LaysOn known a t b) c.in-TooLarge.is c.in_ok-lay_later.ensures.ok)
