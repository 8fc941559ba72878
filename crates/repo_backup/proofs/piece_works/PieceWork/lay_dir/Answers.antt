use Rattle.std.proofs.Common.{◌≡◌, ◌≤◌, ◌++◌, ◌∷◌, [], length, drop, take, Some, None, refl, sym, ap, subst, inl, ◌∙◌, Contains}
use Rattle.repo_name.specs.declared.kinds.BlobKind.TheVariants.{Tree}
use Rattle.repo_pack.specs.PackLayout.{item_of}
use Rattle.repo_backup.specs.PartsMade.{left_count}
use Rattle.repo_backup.specs.Pieces.{PacksPart}
use Rattle.repo_backup.specs.Standings.{made_at}
use Rattle.repo_backup.specs.declared.packing.Sealing.{Sealing}
use Rattle.repo_backup.specs.declared.piece_works.PieceWork.{PieceWork}
use Rattle.repo_backup.proofs.PackingLemmas.{on_any}
use Rattle.repo_backup.proofs.PartLaying.{laid_dir, large_first, lays_still}
use Rattle.repo_backup.proofs.PartLists.{one_of}
use Rattle.repo_backup.proofs.piece_works.PieceWork.lay_dir.Goals as goal

pub returns-clause-ok : goal.returns-clause-ok
returns-clause-ok c = (
  refl,
  λ st sent h.
      let w = c.args.self.now in
      let known = c.args.lookup.now in
      let p = h.parts in
      let moved = c.make_room_around.ensures in
      let room = c.in_ok-make_room_around.ensures.room in
      let outer = room.1 in
      let u : PieceWork = record w { walk = c.make_room_around.new.self } in
      let there = lays_still w u known p p h.parts_are h.parts_are refl refl refl moved.params moved.version moved.above (ap (λ x. x.items) moved.nodes) moved.file moved.root (λ sent k. k) refl st sent h in
      let k = c.in-Some.field-0 in
      let q = c.pack_part.new.packing in
      let v : PieceWork = record w { walk = c.end_dir.new.self; parts = None; packing = q } in
      let ended = c.end_dir.ensures.nodes room.0 outer room.2 in
      let nodes = c.between-nodes.result.now in
      let count = c.what_is_left-count.result.0 in
      let all = u.walk.nodes.items in
      let one = one_of p.sizes.items (sym (ap left_count h.parts_are) ∙ c.requires.one) in
      let left = c.what_is_left-count.ensures p h.parts_are in
      let range = subst (λ n. 0 ≤ n → n ≤ length all → nodes ≡ drop 0 (take n all)) left.0 (subst (λ ns. 0 ≤ count → count ≤ length ns → nodes ≡ drop 0 (take count ns)) c.as_slice.ensures.value c.between-nodes.ensures) in
      let packed = subst (λ n. PacksPart known Sealing.Due nodes n w.packing (Some k) q) left.1 (subst (λ o. PacksPart known Sealing.Due nodes c.what_is_left-count.result.1 w.packing o q) c.in-Some.is c.in_ok-packed.ensures.ok) in
      let laid = laid_dir u known st sent there p h.parts_are one.0 one.1 nodes range k.name packed.0 packed.1 v outer c.end_dir.ensures.params c.end_dir.ensures.version (room.2 ∙ ap (λ l. l ++ outer ∷ []) (sym ended.0))
      c.end_dir.ensures.file c.end_dir.ensures.root ended.1 packed.2 in
      (laid.0, inl (refl, laid.1), inl laid.2),
)

pub returns-in_default-clause-ok : goal.returns-in_default-clause-ok
returns-in_default-clause-ok c = λ st sent h.
    let w = c.args.self.now in
    let known = c.args.lookup.now in
    let p = h.parts in
    let moved = c.make_room_around.ensures in
    let u : PieceWork = record w { walk = c.make_room_around.new.self } in
    let there = lays_still w u known p p h.parts_are h.parts_are refl refl refl moved.params moved.version moved.above (ap (λ x. x.items) moved.nodes) moved.file moved.root (λ sent k. k) refl st sent h in
    let q = c.pack_part.new.packing in
    let nodes = c.between-nodes.result.now in
    let count = c.what_is_left-count.result.0 in
    let all = u.walk.nodes.items in
    let one = one_of p.sizes.items (sym (ap left_count h.parts_are) ∙ c.requires.one) in
    let left = c.what_is_left-count.ensures p h.parts_are in
    let range = subst (λ n. 0 ≤ n → n ≤ length all → nodes ≡ drop 0 (take n all)) left.0 (subst (λ ns. 0 ≤ count → count ≤ length ns → nodes ≡ drop 0 (take count ns)) c.as_slice.ensures.value c.between-nodes.ensures) in
    let large = subst (λ n. PacksPart known Sealing.Due nodes n w.packing None q) left.1 (subst (λ o. PacksPart known Sealing.Due nodes c.what_is_left-count.result.1 w.packing o q) c.in_default.is c.in_ok-packed.ensures.ok) in
    let found = large_first u known st sent there p h.parts_are one.0 one.1 nodes range large in
    (found.0, subst (λ n. Contains (made_at n st) (item_of Tree found.0)) moved.version found.1, found.2)

pub returns-in_err-make_room_around-clause-still : goal.returns-in_err-make_room_around-clause-still
returns-in_err-make_room_around-clause-still c =
    let w = c.args.self.now in
    let moved = c.make_room_around.ensures in
    let u : PieceWork = record w { walk = c.make_room_around.new.self } in
    on_any _ c.from_residual.result (λ st sent h. lays_still w u c.args.lookup.now h.parts h.parts h.parts_are h.parts_are refl refl refl moved.params moved.version moved.above (ap (λ x. x.items) moved.nodes) moved.file moved.root (λ sent k. k) refl st sent h)

pub returns-in_err-packed-clause-still : goal.returns-in_err-packed-clause-still
returns-in_err-packed-clause-still c =
    let w = c.args.self.now in
    let moved = c.make_room_around.ensures in
    let v : PieceWork = record w { walk = c.make_room_around.new.self; packing = c.pack_part.new.packing } in
    let err = c.in_err-packed.ensures.err in
    on_any _ c.from_residual-in_err-packed.result (λ st sent h. lays_still w v c.args.lookup.now h.parts h.parts h.parts_are h.parts_are refl refl refl moved.params moved.version moved.above (ap (λ x. x.items) moved.nodes) moved.file moved.root err.2 (ap (λ x. x.items) err.0) st sent h)
