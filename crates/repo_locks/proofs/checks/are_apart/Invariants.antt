use Rattle.std.proofs.Common.{◌≡◌, drop, true, None}
use Rattle.repo_name.specs.declared.tokens.Token.{Token}
use Rattle.repo_locks.specs.TokenMachine.{is_among, kind_among}
use Rattle.repo_locks.proofs.checks.are_apart.Given as goal

abbrev pub invariant-loop-row : goal.invariant-loop-row
invariant-loop-row l = record {
  on : ((t : Token) → is_among l.numbers.keys t ≡ true → kind_among l.rows t ≡ None) → (t : Token) → is_among l.numbers.keys t ≡ true → kind_among (drop l.row-index l.rows) t ≡ None;
  back : ((t : Token) → is_among l.numbers.keys t ≡ true → kind_among (drop l.row-index l.rows) t ≡ None) → (t : Token) → is_among l.numbers.keys t ≡ true → kind_among l.rows t ≡ None;
}
