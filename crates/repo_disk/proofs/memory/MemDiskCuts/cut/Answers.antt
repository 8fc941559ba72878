use Rattle.repo_disk.proofs.CellLemmas.{cut}
use Rattle.repo_disk.proofs.memory.MemDiskCuts.cut.Goals as goal

pub returns-clause-cut : goal.returns-clause-cut
returns-clause-cut c h = rw c.cut_cells.ensures (cut c.args.self.cells.items c.args.self.young c.none.result c.none.ensures)
