use Rattle.std.proofs.Common.{sym, subst, ◌∙◌}
use Rattle.std.proofs.lemmas.Option.{same_Some}
use Rattle.repo_backup.specs.Pieces.{IsReady}
use Rattle.repo_backup.specs.declared.piece_backing.PieceBacking.{PieceBacking}
use Rattle.repo_backup.proofs.piece_jobs.PieceJob.is_ready.Goals as goal

pub returns-in-Some : goal.returns-in-Some
returns-in-Some c = (
  λ is. (c.in-Some.backing, c.in-Some.is, c.is_ready.ensures.0 is),
  λ ready. c.is_ready.ensures.1 (subst (λ (b : PieceBacking). IsReady b.work) (same_Some ready.0 c.in-Some.backing (sym ready.1 ∙ c.in-Some.is)) ready.2),
)
