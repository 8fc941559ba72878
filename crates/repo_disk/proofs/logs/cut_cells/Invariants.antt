use Rattle.std.proofs.Common.{◌≡◌, map, take, drop, length}
use Rattle.repo_disk.specs.Memory.{left_of}
use Rattle.repo_disk.proofs.logs.cut_cells.Given as goal

abbrev pub invariant-loop-i : goal.invariant-loop-i
invariant-loop-i l = record {
  long : length l.cells.items ≡ length l.fn.cells.items;
  done : take l.i l.cells.items ≡ map left_of (take l.i l.fn.cells.items);
  rest : drop l.i l.cells.items ≡ drop l.i l.fn.cells.items;
}
