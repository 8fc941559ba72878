use Rattle.std.proofs.Common.{arith}
use Rattle.std.proofs.lemmas.Grind.{common_steps}
use Rattle.repo_backup.proofs.ended.add_names.Goals as goal

pub loop-digest-preserved : goal.loop-digest-preserved
loop-digest-preserved c = record { named = grind (arith, common_steps); room = grind (arith, common_steps) }
