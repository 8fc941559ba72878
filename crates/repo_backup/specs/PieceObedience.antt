-- A backup that is fed items is obedient.
use Rattle.repo_session.specs.Clients.{IsObedientBy, TellsToken}
use Rattle.repo_session.specs.Obedience.{session_obeys}
use Rattle.repo_session.specs.Tickets.{session_tells}
use Rattle.repo_session.specs.Sessions.{who_in, next_in, ended_in, token_in}
use Rattle.repo_session.specs.Traces.{Trace}
use Rattle.repo_backup.specs.PieceRules.{piece_rule}
use Rattle.repo_backup.specs.PieceBackups.{given_nothing, by_piece_rule, IsFreshPieces, PieceKnows, PieceWants, FitsPieces}
use Rattle.repo_backup.specs.declared.piece_backups.PieceBackup.{PieceBackup}

pub pieces_obey : (b : PieceBackup) (es : Trace) → FitsPieces b es → IsObedientBy piece_rule (who_in b.session) (next_in b.session) (ended_in b.session) es
pieces_obey b es f = session_obeys given_nothing by_piece_rule IsFreshPieces PieceKnows PieceWants b.session es f

pub pieces_tell : (b : PieceBackup) (es : Trace) → FitsPieces b es → TellsToken (token_in b.session) (ended_in b.session) es
pieces_tell b es fits = session_tells given_nothing by_piece_rule IsFreshPieces PieceKnows PieceWants b.session es fits
