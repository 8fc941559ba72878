use Rattle.std.proofs.Common.{refl, sym, ap, subst}
use Rattle.repo_backup.specs.Pieces.{TakesBytes, with_file}
use Rattle.repo_backup.specs.declared.piece_works.PieceWork.{PieceWork}
use Rattle.repo_backup.proofs.PackingLemmas.{on_any}
use Rattle.repo_backup.proofs.Piecing.{nothing_taken}
use Rattle.repo_backup.proofs.piece_works.PieceWork.feed_bytes.Goals as goal

pub returns-clause-ok : goal.returns-clause-ok
returns-clause-ok c =
    let w = c.args.self.now in
    let v : PieceWork = with_file w c.take_bytes-taken.new.file c.take_bytes-taken.new.packing in
    subst (λ (x : PieceWork). TakesBytes c.args.lookup.now c.args.piece.now x c.in_ok-taken.field-0 v) (λ i. record w { walk = record w.walk { file = c.in-Some.ensures.value i } }) (c.in_ok-taken.ensures.ok w c.requires.unended c.requires.unlaid)

pub returns-in_err-taken-clause-stays : goal.returns-in_err-taken-clause-stays
returns-in_err-taken-clause-stays c =
    let w = c.args.self.now in
    let f = c.in-Some.file in
    let g = c.take_bytes-taken.new.file in
    let v : PieceWork = with_file w g c.take_bytes-taken.new.packing in
    let err = c.in_err-taken.ensures.err in
    on_any _ c.from_residual.result (nothing_taken w v f g c.args.lookup.now (sym c.in-Some.ensures.value) (record { params = refl; version = refl; above = refl; nodes = refl; root = refl }) refl c.requires.unlaid err.0.0 err.0.1 err.0.2 err.0.3 err.0.4 err.0.5 err.1.2 (ap (λ x. x.items) err.1.0))
