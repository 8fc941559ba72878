use Rattle.repo_backup.proofs.Closing.{uncut_of}
use Rattle.repo_backup.proofs.pieces.PieceFile.scan.Goals as goal

pub append-requires : goal.append-requires
append-requires c = uncut_of c.args.self.now
