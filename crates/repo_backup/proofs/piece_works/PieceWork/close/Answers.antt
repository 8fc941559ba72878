use Rattle.std.proofs.Common.{rules, arith, ◌≡◌, ◌≢◌, ◌≤◌, ◌∷◌, [], List, length, map, take, Some, None, refl, ap, subst, ◌∙◌}
use Rattle.std.proofs.lemmas.List.{length-map}
use Rattle.std.proofs.Math.Seq.{take-append_seam}
use Rattle.repo_backup.specs.PartsMade.{parts_by}
use Rattle.repo_backup.specs.Pieces.{EndsSteady, LeavesPacked, sealing_in}
use Rattle.repo_backup.specs.declared.parts.PartsLeft.{PartsLeft}
use Rattle.repo_backup.specs.declared.piece_works.PieceWork.{PieceWork}
use Rattle.repo_backup.proofs.Closing.{room_stays}
use Rattle.repo_backup.proofs.PartLaying.{closes, ends_back}
use Rattle.repo_backup.proofs.PartLists.{parts_some}
use Rattle.repo_backup.proofs.piece_works.PieceWork.close.Goals as goal

some_length : {A : Type 0} (xs : List A) → xs ≢ [] → 1 ≤ length xs
some_length [] some = absurd (some refl)
some_length (x ∷ xs) some = omega arith

pub lay-requires-clause-some : goal.lay-requires-clause-some
lay-requires-clause-some c =
    let w = c.args.self.now in
    let parts = parts_by w.walk.version c.as_slice.result.now in
    let sizes : length c.in_ok-sizes.sizes.items ≡ length parts = ap length c.in_ok-sizes.ensures ∙ length-map parts length in
    let some : 1 ≤ length parts = some_length parts (parts_some w.walk.version c.as_slice.result.now) in
    omega (arith, sizes, some)

pub returns-in-Ok-clause-ok : goal.returns-in-Ok-clause-ok
returns-in-Ok-clause-ok c =
    let w = c.args.self.now in
    let p : PartsLeft = record { sizes = c.in_ok-sizes.sizes; count = c.len-count.result; next = None } in
    let sizes = c.in_ok-sizes.ensures ∙ ap (λ ns. map length (parts_by w.walk.version ns)) c.as_slice.ensures.value in
    closes w c.args.lookup.now p c.requires.ready c.requires.file c.min.ensures.lawful sizes (search rules) refl c.in-Ok.took c.lay.new.self c.in-Ok.ensures.ok

pub returns-in-Ok-clause-back : goal.returns-in-Ok-clause-back
returns-in-Ok-clause-back c = λ top.
    let w = c.args.self.now in
    let known = c.args.lookup.now in
    let p : PartsLeft = record { sizes = c.in_ok-sizes.sizes; count = c.len-count.result; next = None } in
    let u : PieceWork = record w { parts = Some p } in
    let left = subst (λ os. LeavesPacked (sealing_in os) c.in-Ok.took c.lay.new.self) top c.in-Ok.ensures.packed in
    let steady = subst (λ os. EndsSteady known os u c.in-Ok.took c.lay.new.self) top c.in-Ok.ensures.steady in
    ends_back w u c.lay.new.self known c.in-Ok.took refl refl c.requires.ready left steady

pub returns-in-Err-clause-stays : goal.returns-in-Err-clause-stays
returns-in-Err-clause-stays c =
    let w = c.args.self.now in
    let steady = c.in-Err.ensures.err.0 in
    let v : PieceWork = record c.lay.new.self { packing = c.take_back.new.self; parts = None } in
    let less = c.take_back.ensures in
    let grows = steady.packing.grows.0 in
    let count : c.len-packed.result ≡ length w.packing.packer.writer.items = search rules in
    let items : c.take_back.new.self.packer.writer.items ≡ w.packing.packer.writer.items =
    less.items ∙ (λ i. take (count i) (grows.1 i)) ∙ take-append_seam w.packing.packer.writer.items grows.0 in
    room_stays w v c.args.lookup.now steady.params steady.version steady.outers steady.nodes steady.file c.in-Err.ensures.err.1 (λ sent h. less.packing c.args.lookup.now sent [] (steady.packing.packs sent h)) items
