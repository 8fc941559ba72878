use Rattle.std.proofs.Common.{rules, ◌∙◌}
use Rattle.std.proofs.lemmas.List.{length-set}
use Rattle.repo_disk.proofs.CellLemmas.{next_left}
use Rattle.repo_disk.proofs.logs.cut_cells.Goals as goal

pub loop-i-preserved : goal.loop-i-preserved
loop-i-preserved c =
    let inv = c.loop-i.invariant in
    let next = next_left c.loop-i.cells.items c.args.cells.now.items c.loop-i.i c.index_mut.result.now (search rules) inv.long inv.done inv.rest (search rules) in
    rw c.cut_cell.ensures record {
      long = length-set _ _ _ ∙ inv.long;
      done = next.0;
      rest = next.1;
    }
