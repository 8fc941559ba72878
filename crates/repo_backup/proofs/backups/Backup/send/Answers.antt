use Rattle.std.proofs.Common.{IfOk, sym, subst}
use Rattle.repo_backup.specs.Backups.{BackupSends}
use Rattle.repo_backup.proofs.backups.Backup.send.Goals as goal

pub returns-in-On-clause-sends : goal.returns-in-On-clause-sends
returns-in-On-clause-sends c = subst (λ w. IfOk c.send_last.result (λ step. BackupSends c.args.self.now c.args.holder.now w step c.args.self.now)) (sym c.in-On.is) c.send_last.ensures.sends

pub returns-in-Pack-clause-sends : goal.returns-in-Pack-clause-sends
returns-in-Pack-clause-sends c = subst (λ w. BackupSends c.args.self.now c.args.holder.now w c.send_pack.result c.send_pack.new.self) (sym c.in-Pack.is) c.send_pack.ensures.sends

pub returns-in-TooLarge-clause-sends : goal.returns-in-TooLarge-clause-sends
returns-in-TooLarge-clause-sends c = subst (λ w. BackupSends c.args.self.now c.args.holder.now w c.end_large.result c.args.self.now) (sym c.in-TooLarge.is) (c.end_large.ensures.sends c.args.holder.now)
