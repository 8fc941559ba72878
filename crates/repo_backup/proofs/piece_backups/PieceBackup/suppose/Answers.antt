use Rattle.std.proofs.Common.{◌∷◌, List, subst}
use Rattle.std.proofs.lemmas.Option.{IfSome_then}
use Rattle.repo_wire.specs.declared.messages.Request.{Request}
use Rattle.repo_wire.specs.declared.messages.Say.{Say}
use Rattle.repo_session.specs.Sessions.{FitsWanting}
use Rattle.repo_session.specs.Traces.{giving}
use Rattle.repo_session.specs.declared.emissions.Emission.{Emission}
use Rattle.repo_backup.specs.PieceBackups.{given_nothing, by_piece_rule, IsFreshPieces, PieceKnows, PieceWants}
use Rattle.repo_backup.proofs.Replying.{none_given}
use Rattle.repo_backup.proofs.piece_backups.PieceBackup.suppose.Goals as goal

pub returns-clause-supposed : goal.returns-clause-supposed
returns-clause-supposed c = IfSome_then c.suppose.result c.suppose.ensures.supposed (λ (letter : Request) supposes. record {
  pending = supposes.pending;
  unended = supposes.unended;
  put = supposes.put;
  awaits = supposes.awaits;
  fits = λ es fits.
      let new = c.suppose.new.self in
      let F : List Emission → Type 0 = λ given. FitsWanting given_nothing by_piece_rule IsFreshPieces PieceKnows PieceWants new (giving letter.ask Say.Done given ∷ es) in
      subst F (none_given new.told) (supposes.fits es fits);
})
