use Rattle.std.proofs.Common.{subst}
use Rattle.std.proofs.lemmas.Result.{on_ok_weaker}
use Rattle.repo_disk.specs.Memory.{IsGiven}
use Rattle.repo_disk.proofs.CellLemmas.{gives_in}
use Rattle.repo_disk.proofs.memory.MemDisk.change.Goals as goal

pub returns-clause-ok : goal.returns-clause-ok
returns-clause-ok c =
    let cell = c.in_ok-cell.cell in
    let is = subst (λ cells. IsGiven cells c.args.room c.args.name.now c.args.change.given cell) c.deref.ensures.value c.in_ok-cell.ensures in
    on_ok_weaker c.log.result (gives_in c.args.self.now.cells.items c.args.self.now.young c.args.room c.args.name.now c.args.change.given cell is c.log.new.self.cells.items c.log.new.self.young c.log.ensures.young) c.log.ensures.ok
