use Rattle.std.proofs.Common.{◌∷◌, List, subst}
use Rattle.repo_session.specs.Clients.{exchange}
use Rattle.repo_session.specs.Sessions.{FitsWanting}
use Rattle.repo_session.specs.declared.emissions.Emission.{Emission}
use Rattle.repo_backup.specs.PieceBackups.{given_nothing, by_piece_rule, IsFreshPieces, PieceKnows, PieceWants}
use Rattle.repo_backup.proofs.Replying.{none_given}
use Rattle.repo_backup.proofs.PackingLemmas.{on_ok}
use Rattle.repo_backup.proofs.piece_backups.PieceBackupClient.take.Goals as goal

pub returns-clause-taken : goal.returns-clause-taken
returns-clause-taken c = on_ok c.take.result _ _ (λ taken r p a es f.
    let new = c.take.new.self in
    let F : List Emission → Type 0 = λ given. FitsWanting given_nothing by_piece_rule IsFreshPieces PieceKnows PieceWants new (exchange r c.args.reply.now given ∷ es) in
    subst F (none_given new.told) (taken r p a es f)) c.take.ensures.taken
