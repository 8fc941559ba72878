use Rattle.std.proofs.Common.{◌≡◌, ◌++◌, length}
use Rattle.std.specs.BTreeMap.{values}
use Rattle.repo_locks.specs.TokenMaps.{AreUnderTokens}
use Rattle.repo_locks.proofs.making.map_of_rows.Given as goal

abbrev pub invariant-loop-row : goal.invariant-loop-row
invariant-loop-row l = record {
  put : values l.map ≡ l.yielded;
  under : AreUnderTokens l.map.entries;
  counted : length l.row-iterator.rest.items ≡ l.row-iterator.rest.len;
  left : l.fn.rows.items ≡ l.yielded ++ l.row-iterator.rest.items;
}
