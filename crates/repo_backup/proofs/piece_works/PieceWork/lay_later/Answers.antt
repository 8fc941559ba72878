use Rattle.std.proofs.Common.{rules, arith, ◌≡◌, ◌≤◌, ◌++◌, ◌∷◌, [], length, drop, take, Some, refl, sym, ap, subst, inl, inr, ◌∙◌, length-append}
use Rattle.repo_backup.specs.PartsMade.{left_count}
use Rattle.repo_backup.specs.Pieces.{PacksPart}
use Rattle.repo_backup.specs.declared.packing.Sealing.{Sealing}
use Rattle.repo_backup.specs.declared.parts.PartsLeft.{PartsLeft}
use Rattle.repo_backup.specs.declared.piece_works.PieceWork.{PieceWork}
use Rattle.repo_backup.proofs.PartLaying.{laid_later, large_later, lays_still}
use Rattle.repo_backup.proofs.piece_works.PieceWork.lay_later.Goals as goal

pub returns-in-Ok-Some-clause-ok : goal.returns-in-Ok-Some-clause-ok
returns-in-Ok-Some-clause-ok c = (
  refl,
  λ st sent h.
      let w = c.args.self.now in
      let known = c.args.lookup.now in
      let p = c.in-Some.left in
      let k = c.in-Ok-Some in
      let q : PartsLeft = record { sizes = c.pop.new.self; count = c.saturating_sub-from.result; next = Some k.field-0-0.name } in
      let v : PieceWork = record w { parts = Some q; packing = c.pack_part.new.packing } in
      let nodes = c.between-nodes.result.now in
      let is : w.parts ≡ Some p = sym c.in-Some.ensures.value in
      let popped : p.sizes.items ≡ q.sizes.items ++ c.in-Some-pop.size ∷ [] = c.in-Some-pop.ensures.items in
      let many : 1 ≤ length q.sizes.items = omega (arith, ap left_count is, ap length popped, length-append q.sizes.items (c.in-Some-pop.size ∷ []), c.requires.many) in
      let range = subst (λ ns. q.count ≤ p.count → p.count ≤ length ns → nodes ≡ drop q.count (take p.count ns)) c.as_slice.ensures.value c.between-nodes.ensures in
      let packed = subst (λ o. PacksPart known Sealing.Due nodes p.next w.packing o c.pack_part.new.packing) k.field-0-is k.ensures.ok in
      let laid = laid_later w v known st sent h p q is c.in-Some-pop.size popped nodes k.field-0-0.name many c.saturating_sub-from.ensures range refl packed.1 packed.0 refl refl packed.2 in
      (laid.0, inr laid.1, inl laid.2),
)

pub returns-in-Ok-None-clause-ok : goal.returns-in-Ok-None-clause-ok
returns-in-Ok-None-clause-ok c = λ st sent h.
    let w = c.args.self.now in
    let known = c.args.lookup.now in
    let p = c.in-Some.left in
    let k = c.in-Ok-None in
    let nodes = c.between-nodes.result.now in
    let from = c.saturating_sub-from.result in
    let is : w.parts ≡ Some p = sym c.in-Some.ensures.value in
    let range = subst (λ ns. from ≤ p.count → p.count ≤ length ns → nodes ≡ drop from (take p.count ns)) c.as_slice.ensures.value c.between-nodes.ensures in
    let large = subst (λ o. PacksPart known Sealing.Due nodes p.next w.packing o c.pack_part.new.packing) k.field-0-is k.ensures.ok in
    large_later w known st sent h p is c.pop.new.self.items c.in-Some-pop.size c.in-Some-pop.ensures.items nodes from c.saturating_sub-from.ensures range large

pub returns-in-Err-clause-still : goal.returns-in-Err-clause-still
returns-in-Err-clause-still c =
    let w = c.args.self.now in
    let p = c.in-Some.left in
    let q : PartsLeft = record { sizes = c.push.new.self; count = p.count; next = p.next } in
    let v : PieceWork = record w { parts = Some q; packing = c.pack_part.new.packing } in
    let err = c.in-Err.ensures.err in
    let pushed : c.push.new.self.items ≡ c.pop.new.self.items ++ c.in-Some-pop.size ∷ [] = search rules in
    lays_still w v c.args.lookup.now p q (sym c.in-Some.ensures.value) refl (pushed ∙ sym c.in-Some-pop.ensures.items) refl refl refl refl (λ n above h. h) refl refl refl err.2 (ap (λ x. x.items) err.0)
