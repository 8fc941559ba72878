use Rattle.std.proofs.Common.{None, refl}
use Rattle.repo_prog.proofs.JobLemmas.{backup_none}
use Rattle.repo_prog.proofs.TellLemmas.{nothing_told, told_plain}
use Rattle.repo_prog.proofs.backup.backup_command.Goals as goal

pub returns-in-Err-clause-gives : goal.returns-in-Err-clause-gives
returns-in-Err-clause-gives g c = (backup_none c.args.caller.now c.args.origin.host.now None c.args.route.now.retry (g.D.Dial.connections c.args.route.now.dial), told_plain _ _ _ _ _ (nothing_told _ _ _ _ _ c.not_walked.ensures refl))
