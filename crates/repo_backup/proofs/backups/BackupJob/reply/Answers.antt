use Rattle.std.proofs.Common.{[], refl, ap}
use Rattle.repo_backup.specs.Plans.{walked}
use Rattle.repo_backup.proofs.PackingLemmas.{on_err}
use Rattle.repo_backup.proofs.backups.BackupJob.reply.Goals as goal

pub returns-in_default : goal.returns-in_default
returns-in_default c = record {
  steps = c.take.ensures.ok;
  heeds = c.take.ensures.heeds;
  short = c.take.ensures.short;
  calm = λ code is any. absurd (c.in_default.not-Refused code is);
  knows = c.take.ensures.err;
  given = on_err c.take.result _ _ (λ err. refl) c.take.ensures.err;
  handed = ap (λ s. walked [] s.items) c.take.ensures.steps;
}
