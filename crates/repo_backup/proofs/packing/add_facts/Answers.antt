use Rattle.std.proofs.Common.{arith}
use Rattle.std.proofs.lemmas.Grind.{common_steps}
use Rattle.repo_backup.proofs.packing.add_facts.Goals as goal

pub loop-blob-preserved : goal.loop-blob-preserved
loop-blob-preserved c = record { facts = grind (arith, common_steps); room = grind (arith, common_steps) }
