-- Some later parts were made, and no pack is sealed.
use Rattle.std.proofs.Common.{◌≡◌, ◌≤◌}
use Rattle.repo_backup.specs.Packings.{AimsOn}
use Rattle.repo_backup.specs.PartsMade.{left_count}
use Rattle.repo_backup.specs.Pieces.{IsStill, LaysStill}
use Rattle.repo_backup.proofs.piece_works.PieceWork.lay.Given as goal

abbrev pub invariant-loop-self : goal.invariant-loop-self
invariant-loop-self l = record {
  still : IsStill l.lookup l.fn.self.packing l.self.packing;
  aims : AimsOn l.fn.self.packing l.self.packing;
  walk : l.self.walk ≡ l.fn.self.walk;
  some : 1 ≤ left_count l.self.parts;
  lays : LaysStill l.lookup l.fn.self l.self;
}

abbrev pub decreases-loop-self : goal.decreases-loop-self
decreases-loop-self l = left_count l.self.parts
