use Rattle.std.proofs.Common.{◌≡◌, ◌++◌, length}
use Rattle.std.specs.List.{flat_map, All}
use Rattle.repo_locks.specs.LedgerBytes.{token_bytes, IsNumber}
use Rattle.repo_locks.proofs.reading.numbers_at.Given as goal

abbrev pub invariant-loop : goal.invariant-loop
invariant-loop l = record {
  counted : length l.numbers.items ≡ l.counter;
  each : All IsNumber l.numbers.items;
  read : l.bytes ≡ flat_map token_bytes l.numbers.items ++ l.rest;
}
