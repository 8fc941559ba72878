use Rattle.std.proofs.lemmas.Result.{on_ok_weaker}
use Rattle.repo_disk.proofs.CellLemmas.{drafted, gives_then}
use Rattle.repo_disk.proofs.memory.MemDisk.rename.Goals as goal

pub returns-clause-ok : goal.returns-clause-ok
returns-clause-ok c = on_ok_weaker c.change-2.result (gives_then _ _ _ (drafted _ _ _ _ c.in_ok-change.ensures.ok) _ _ _) c.change-2.ensures.ok
