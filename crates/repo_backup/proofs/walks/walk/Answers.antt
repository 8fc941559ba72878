use Rattle.std.proofs.Common.{subst}
use Rattle.repo_backup.specs.PieceStates.{LaysSo}
use Rattle.repo_backup.specs.Plans.{left_fed}
use Rattle.repo_backup.specs.declared.walks.Went.{Went}
use Rattle.repo_backup.proofs.BackupStepping.{goes_laid, goes_then}
use Rattle.repo_backup.proofs.PackingLemmas.{on_any, on_err}
use Rattle.repo_backup.proofs.Staging.{if_ok}
use Rattle.repo_backup.proofs.walks.walk.Goals as goal

pub returns-in_err-went-clause-err : goal.returns-in_err-went-clause-err
returns-in_err-went-clause-err c = on_any _ c.from_residual.result (goes_laid c.args.lookup.now c.args.work.now c.lay_on.new.work (left_fed c.args.position.now c.args.steps.now) Went.On c.in_err-went.ensures.err)

pub returns-in-On-clause-ok : goal.returns-in-On-clause-ok
returns-in-On-clause-ok c =
    let facts = c.args.lookup.now in
    let old = c.args.work.now in
    let mid = c.lay_on.new.work in
    let left = left_fed c.args.position.now c.args.steps.now in
    let first = goes_laid facts old mid left Went.On (subst (λ w. LaysSo facts old w mid) c.in-On.is c.in_ok-went.ensures.ok) in
    if_ok _ _ c.feed_on.result (λ went goes. goes_then facts old mid c.feed_on.new.work left left (left_fed c.feed_on.new.position c.args.steps.now) went first goes) c.feed_on.ensures.ok

pub returns-in-On-clause-err : goal.returns-in-On-clause-err
returns-in-On-clause-err c =
    let facts = c.args.lookup.now in
    let old = c.args.work.now in
    let mid = c.lay_on.new.work in
    let left = left_fed c.args.position.now c.args.steps.now in
    let first = goes_laid facts old mid left Went.On (subst (λ w. LaysSo facts old w mid) c.in-On.is c.in_ok-went.ensures.ok) in
    on_err c.feed_on.result _ _ (λ goes. goes_then facts old mid c.feed_on.new.work left left (left_fed c.feed_on.new.position c.args.steps.now) Went.On first goes) c.feed_on.ensures.err

pub returns-in_default : goal.returns-in_default
returns-in_default c = record {
  ok = goes_laid c.args.lookup.now c.args.work.now c.lay_on.new.work (left_fed c.args.position.now c.args.steps.now) c.in_ok-went.went c.in_ok-went.ensures.ok;
  all = λ on. absurd (c.in_default.not-On on);
  laid = λ on. absurd (c.in_default.not-On on);
  err = tt;
  way = c.lay_on.ensures.way;
}
