use Rattle.std.proofs.Common.{◌≡◌, ◌++◌}
use Rattle.std.specs.BTreeMap.{values}
use Rattle.std.specs.List.{flat_map, All}
use Rattle.repo_name.specs.Rows.{row_bytes, rows_bytes, IsRow}
use Rattle.repo_locks.proofs.writing.append_live.Given as goal

abbrev pub invariant-loop-row : goal.invariant-loop-row
invariant-loop-row l = record {
  written : l.out.items ++ flat_map row_bytes l.row-iterator ≡ l.fn.out.items ++ rows_bytes (values l.rows);
  rows : All IsRow l.row-iterator;
}
