use Rattle.std.proofs.Common.{◌∷◌, inl}
use Rattle.repo_session.proofs.Sessioning.{wants_of}
use Rattle.repo_backup.specs.PieceBackups.{IsFreshPieces, PieceKnows, PieceWants}
use Rattle.repo_backup.specs.PieceRules.{piece_rule}
use Rattle.repo_backup.proofs.Unreading.{session_unread}
use Rattle.repo_backup.proofs.piece_backups.PieceBackup.unread.Goals as goal

pub returns-clause-fits : goal.returns-clause-fits
returns-clause-fits c = λ e es hungry instance sequence ask reads fits.
    let old = c.args.self.now.session in
    let job = c.unread.new.self in
    let w = wants_of piece_rule old.head.holder old.head.lock (IsFreshPieces old.job) (PieceKnows old.job) (PieceWants old.job) old.head.line (e ∷ es) hungry.0 hungry.1 fits in
    let back = c.unread.ensures e es reads w.knows in (
      session_unread piece_rule old.head.holder old.head.lock (IsFreshPieces old.job) (IsFreshPieces job) (PieceKnows old.job) (PieceKnows job) (PieceWants old.job) (PieceWants job) old.head.line c.args.letter e es
          hungry.0 hungry.1 instance sequence ask reads (λ wants. inl (c.unread.ensures e es reads wants)) fits,
      back.1.2.1,
    )
