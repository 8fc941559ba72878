use Rattle.std.proofs.Common.{◌≡◌, ◌++◌, length, take}
use Rattle.std.specs.Io.{StartsWith}
use Rattle.std.specs.List.{flat_map}
use Rattle.repo_name.specs.Rows.{count, row_bytes}
use Rattle.repo_name.proofs.rows.append_rows.Given as goal

abbrev pub invariant-loop-row : goal.invariant-loop-row
invariant-loop-row l = record {
  written : l.out.items ≡ (l.fn.out.items ++ count (length l.rows)) ++ flat_map row_bytes (take l.row-index l.rows);
  kept : StartsWith l.out.items l.fn.out.items;
}
