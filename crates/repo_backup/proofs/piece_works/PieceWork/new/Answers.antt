use Rattle.std.proofs.Common.{[], List, refl, subst, Contains}
use Rattle.repo_name.proofs.Containing.{none_contained}
use Rattle.repo_pack.specs.PackLayout.{Item}
use Rattle.repo_backup.proofs.piece_works.PieceWork.new.Goals as goal

pub returns-clause-stands : goal.returns-clause-stands
returns-clause-stands c = λ known. record {
  packing = c.new-packing.ensures.packing known;
  of_made = λ item among. absurd (none_contained item (subst (λ (l : List Item). Contains l item) c.new-packing.ensures.writer among));
  at = record { outers = c.new.ensures.items; nodes = c.new-2.ensures.items; file = tt; over = refl; root = tt };
  cut = record { done = tt; above = tt; file = tt };
  texts = (tt, tt);
  order = ([], refl, c.new-packing.ensures.writer);
  covered = tt;
}
