use Rattle.std.proofs.Common.{◌≡◌, Some, None, IfOk, OnErr, refl, subst}
use Rattle.std.proofs.lemmas.Option.{same_Some}
use Rattle.repo_backup.specs.BackupStates.{GoesSo}
use Rattle.repo_backup.specs.Plans.{left_fed}
use Rattle.repo_backup.specs.declared.walks.Went.{Went}
use Rattle.repo_backup.proofs.BackupStepping.{walked_so}
use Rattle.repo_backup.proofs.PackingLemmas.{on_err}
use Rattle.repo_backup.proofs.Staging.{if_ok}
use Rattle.repo_backup.proofs.backups.Backup.walk_on.Goals as goal

pub returns-clause-ok : goal.returns-clause-ok
returns-clause-ok c = if_ok _ _ c.walk.result (λ went goes. walked_so went c.args.self.now (record c.args.self.now { position = c.walk.new.position; backing = Some c.walk.new.self }) c.in-Some.backing c.walk.new.self c.in-Some.is refl c.walk.ensures.same c.walk.ensures.way goes)
    (subst (λ l. IfOk c.walk.result (λ went. GoesSo c.args.self.now.catalog.lookup c.in-Some.backing.work (left_fed c.args.self.now.position l) went c.walk.new.self.work (left_fed c.walk.new.position l))) c.deref.ensures.value c.walk.ensures.ok)

pub returns-clause-err : goal.returns-clause-err
returns-clause-err c = on_err c.walk.result _ _ (λ goes. walked_so Went.On c.args.self.now (record c.args.self.now { position = c.walk.new.position; backing = Some c.walk.new.self }) c.in-Some.backing c.walk.new.self c.in-Some.is refl c.walk.ensures.same c.walk.ensures.way goes)
    (subst (λ l. OnErr c.walk.result (GoesSo c.args.self.now.catalog.lookup c.in-Some.backing.work (left_fed c.args.self.now.position l) Went.On c.walk.new.self.work (left_fed c.walk.new.position l))) c.deref.ensures.value c.walk.ensures.err)

pub returns-clause-laid : goal.returns-clause-laid
returns-clause-laid c = if_ok _ _ c.walk.result (λ went laid b is on. subst (λ x. x.work.parts ≡ None) (same_Some c.walk.new.self b is) (laid on)) c.walk.ensures.laid
