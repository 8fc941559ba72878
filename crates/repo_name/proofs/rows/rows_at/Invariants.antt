use Rattle.std.proofs.Common.{◌≡◌, ◌++◌, length}
use Rattle.std.specs.List.{flat_map, All}
use Rattle.repo_name.specs.Rows.{row_bytes, IsRow}
use Rattle.repo_name.proofs.rows.rows_at.Given as goal

abbrev pub invariant-loop : goal.invariant-loop
invariant-loop l = record {
  counted : length l.rows.items ≡ l.counter;
  each : All IsRow l.rows.items;
  read : l.bytes ≡ flat_map row_bytes l.rows.items ++ l.rest;
}
