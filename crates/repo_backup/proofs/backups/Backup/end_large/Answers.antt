use Rattle.std.proofs.Common.{refl, ◌≡◌, sym, subst, inr, ◌∙◌}
use Rattle.std.proofs.lemmas.Option.{same_Some}
use Rattle.repo_session.specs.declared.outcomes.Outcome.{Outcome}
use Rattle.repo_backup.specs.BackupStates.{IsDueNext}
use Rattle.repo_backup.specs.Backups.{handed_to, left_in}
use Rattle.repo_backup.specs.Rules.{BackupConcludes}
use Rattle.repo_backup.specs.declared.walks.Went.{Went}
use Rattle.repo_backup.proofs.BackupStepping.{backup_large}
use Rattle.repo_backup.proofs.backups.Backup.end_large.Goals as goal

pub returns-clause-sends : goal.returns-clause-sends
returns-clause-sends c = λ holding b es working is due.
    let j = c.args.self.now in
    let a = c.in-Some.backing in
    let same : b ≡ a = same_Some b a (sym is ∙ c.in-Some.is) in
    let m : IsDueNext (handed_to j) j.catalog.lookup Went.TooLarge a (left_in j) es = subst (λ x. IsDueNext (handed_to j) j.catalog.lookup Went.TooLarge x (left_in j) es) same due in
    inr (subst (λ e. BackupConcludes (handed_to j) es (Outcome.Ended e)) (sym c.large_end.ensures) (backup_large (handed_to j) es a.work.walk.version a.work.walk.version refl m.goes))
