use Rattle.std.proofs.Common.{◌≡◌, ◌++◌}
use Rattle.std.specs.List.{flat_map}
use Rattle.repo_locks.specs.LedgerBytes.{token_bytes, fresh_bytes}
use Rattle.repo_locks.proofs.writing.append_fresh.Given as goal

abbrev pub invariant-loop-number : goal.invariant-loop-number
invariant-loop-number l = l.out.items ++ flat_map token_bytes l.number-iterator ≡ l.fn.out.items ++ fresh_bytes l.numbers.keys
