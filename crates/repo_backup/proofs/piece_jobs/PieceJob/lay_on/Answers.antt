use Rattle.std.proofs.Common.{◌≡◌, Some, None, refl, subst}
use Rattle.std.proofs.lemmas.Option.{same_Some}
use Rattle.repo_backup.specs.declared.walks.Went.{Went}
use Rattle.repo_backup.proofs.LayingOn.{laid_so}
use Rattle.repo_backup.proofs.PackingLemmas.{on_err}
use Rattle.repo_backup.proofs.Staging.{if_ok}
use Rattle.repo_backup.proofs.piece_jobs.PieceJob.lay_on.Goals as goal

pub returns-clause-ok : goal.returns-clause-ok
returns-clause-ok c = if_ok _ _ c.lay_on.result (λ went lays. laid_so went c.args.self.now (record c.args.self.now { backing = Some c.lay_on.new.self }) c.in-Some.backing c.lay_on.new.self c.in-Some.is refl c.lay_on.ensures.same lays) c.lay_on.ensures.ok

pub returns-clause-laid : goal.returns-clause-laid
returns-clause-laid c = if_ok _ _ c.lay_on.result (λ went laid b is on. subst (λ x. x.work.parts ≡ None) (same_Some c.lay_on.new.self b is) (laid on)) c.lay_on.ensures.laid

pub returns-clause-err : goal.returns-clause-err
returns-clause-err c = on_err c.lay_on.result _ _ (λ lays. laid_so Went.On c.args.self.now (record c.args.self.now { backing = Some c.lay_on.new.self }) c.in-Some.backing c.lay_on.new.self c.in-Some.is refl c.lay_on.ensures.same lays) c.lay_on.ensures.err
