use Rattle.std.proofs.Common.{◌≡◌, ◌≤◌, length, drop, take, Some, None, refl, sym, ap, subst, inl, inr, ◌∙◌}
use Rattle.repo_backup.specs.PartsMade.{left_count}
use Rattle.repo_backup.specs.Pieces.{PacksPart}
use Rattle.repo_backup.specs.declared.packing.Sealing.{Sealing}
use Rattle.repo_backup.specs.declared.piece_works.PieceWork.{PieceWork}
use Rattle.repo_backup.proofs.PackingLemmas.{on_any}
use Rattle.repo_backup.proofs.PartLaying.{laid_root, large_first, lays_still, root_over}
use Rattle.repo_backup.proofs.PartLists.{one_of}
use Rattle.repo_backup.proofs.piece_works.PieceWork.lay_root.Goals as goal

pub returns-clause-ok : goal.returns-clause-ok
returns-clause-ok c = (
  refl,
  λ st sent h.
      let w = c.args.self.now in
      let known = c.args.lookup.now in
      let p = h.parts in
      let k = c.in-Some.field-0 in
      let q = c.pack_part.new.packing in
      let v : PieceWork = record w { walk = record w.walk { root = Some k.name }; parts = None; packing = q } in
      let nodes = c.between-nodes.result.now in
      let count = c.what_is_left-count.result.0 in
      let all = w.walk.nodes.items in
      let one = one_of p.sizes.items (sym (ap left_count h.parts_are) ∙ c.requires.one) in
      let left = c.what_is_left-count.ensures p h.parts_are in
      let range = subst (λ n. 0 ≤ n → n ≤ length all → nodes ≡ drop 0 (take n all)) left.0 (subst (λ ns. 0 ≤ count → count ≤ length ns → nodes ≡ drop 0 (take count ns)) c.as_slice.ensures.value c.between-nodes.ensures) in
      let packed = subst (λ n. PacksPart known Sealing.Last nodes n w.packing (Some k) q) left.1 (subst (λ o. PacksPart known Sealing.Last nodes c.what_is_left-count.result.1 w.packing o q) c.in-Some.is c.in_ok-packed.ensures.ok) in
      let laid = laid_root w known st sent h p h.parts_are one.0 one.1 nodes range k.name packed.0 packed.1 v c.requires.top refl packed.2 in
      (laid.0, inl (refl, laid.1), inr (root_over w known st sent h c.requires.top, refl, laid.2)),
)

pub returns-in_default-clause-ok : goal.returns-in_default-clause-ok
returns-in_default-clause-ok c = λ st sent h.
    let w = c.args.self.now in
    let known = c.args.lookup.now in
    let p = h.parts in
    let q = c.pack_part.new.packing in
    let nodes = c.between-nodes.result.now in
    let count = c.what_is_left-count.result.0 in
    let all = w.walk.nodes.items in
    let one = one_of p.sizes.items (sym (ap left_count h.parts_are) ∙ c.requires.one) in
    let left = c.what_is_left-count.ensures p h.parts_are in
    let range = subst (λ n. 0 ≤ n → n ≤ length all → nodes ≡ drop 0 (take n all)) left.0 (subst (λ ns. 0 ≤ count → count ≤ length ns → nodes ≡ drop 0 (take count ns)) c.as_slice.ensures.value c.between-nodes.ensures) in
    let large = subst (λ n. PacksPart known Sealing.Last nodes n w.packing None q) left.1 (subst (λ o. PacksPart known Sealing.Last nodes c.what_is_left-count.result.1 w.packing o q) c.in_default.is c.in_ok-packed.ensures.ok) in
    large_first w known st sent h p h.parts_are one.0 one.1 nodes range large

pub returns-in_err-packed-clause-still : goal.returns-in_err-packed-clause-still
returns-in_err-packed-clause-still c =
    let w = c.args.self.now in
    let v : PieceWork = record w { packing = c.pack_part.new.packing } in
    let err = c.in_err-packed.ensures.err in
    on_any _ c.from_residual.result (λ st sent h. lays_still w v c.args.lookup.now h.parts h.parts h.parts_are h.parts_are refl refl refl refl refl (λ n above k. k) refl refl refl err.2 (ap (λ x. x.items) err.0) st sent h)
