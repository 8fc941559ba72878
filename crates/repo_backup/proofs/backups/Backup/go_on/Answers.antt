use Rattle.std.proofs.Common.{◌<◌, length, refl, sym, subst}
use Rattle.repo_index.specs.IndexText.{facts_in}
use Rattle.repo_name.specs.Limits.{facts_limit}
use Rattle.repo_session.specs.declared.jobs.Step.{Step}
use Rattle.repo_backup.specs.Backups.{left_in, WalksOn}
use Rattle.repo_backup.specs.declared.walks.Went.{Went}
use Rattle.repo_backup.proofs.BackupStepping.{goes_same, few_left, sent_so}
use Rattle.repo_backup.proofs.PackingLemmas.{on_any, on_err}
use Rattle.repo_backup.proofs.Staging.{if_ok}
use Rattle.repo_backup.proofs.backups.Backup.go_on.Goals as goal

pub returns-then-is_full-clause-ok : goal.returns-then-is_full-clause-ok
returns-then-is_full-clause-ok c = if_ok _ _ c.send_index.result (λ (step : Step) sends b es working is due. sends b es working is (due, (c.is_full.ensures b is).0 c.if-is_full.true)) c.send_index.ensures.sends

pub returns-then-is_full-clause-err : goal.returns-then-is_full-clause-err
returns-then-is_full-clause-err c = on_any _ c.send_index.result (λ b is. (b, is, refl, record { params = refl; version = refl; target = refl }, goes_same c.args.self.now.catalog.lookup b.work (left_in c.args.self.now)))

pub returns-clause-ok : goal.returns-clause-ok
returns-clause-ok c = if_ok _ _ c.send.result (λ (step : Step) sends b es working is due.
    let room : length (facts_in b.waiting) < facts_limit = few_left c.is_full.result (length (facts_in b.waiting)) (c.is_full.ensures b is) c.if-is_full.false in
    sent_so c.args.self.now c.walk_on.new.self c.send.new.self c.args.holder.now c.in_ok-went.went step c.walk_on.ensures.steps c.walk_on.ensures.catalog c.in_ok-went.ensures.ok c.in_ok-went.ensures.all c.in_ok-went.ensures.laid sends b es working is due room) c.send.ensures.sends

pub returns-clause-err : goal.returns-clause-err
returns-clause-err c = on_err c.send.result _ _ (λ same.
    subst (λ j. WalksOn Went.On c.args.self.now j) (sym same.0) (subst (λ w. WalksOn w c.args.self.now c.walk_on.new.self) same.1 c.in_ok-went.ensures.ok)) c.send.ensures.err
