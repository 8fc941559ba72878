use Rattle.std.proofs.Common.{sym, subst}
use Rattle.repo_wire.specs.Messages.{requests}
use Rattle.repo_wire.specs.Stream.{FitsFrame}
use Rattle.repo_backup.proofs.piece_backups.PieceBackup.reading.Goals as goal

pub of-requires : goal.of-requires
of-requires c =
    let r = c.in_ok-request.request.now in
    subst (λ a. FitsFrame requests (record { instance = r.instance; sequence = r.sequence; ask = a })) (sym c.in_ok-ask.ensures.some.0) (c.in_ok-request.ensures.frame r (sym c.in_ok-request.ensures.next))
