use Rattle.std.proofs.Common.{◌∷◌, List, subst}
use Rattle.repo_session.specs.Sessions.{FitsWanting}
use Rattle.repo_session.specs.Traces.{giving}
use Rattle.repo_session.specs.declared.emissions.Emission.{Emission}
use Rattle.repo_backup.specs.PieceBackups.{given_nothing, by_piece_rule, IsFreshPieces, PieceKnows, PieceWants}
use Rattle.repo_backup.proofs.Replying.{none_given}
use Rattle.repo_backup.proofs.piece_backups.PieceBackup.retract.Goals as goal

pub returns-clause-fits : goal.returns-clause-fits
returns-clause-fits c = λ other es h.
    let new = c.retract.new.self in
    let F : List Emission → Type 0 = λ given. FitsWanting given_nothing by_piece_rule IsFreshPieces PieceKnows PieceWants new (giving c.args.letter.ask c.args.say.now given ∷ es) in
    subst F (none_given new.told) (c.retract.ensures.fits other es h)
