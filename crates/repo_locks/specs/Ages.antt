use Rattle.std.specs.Prelude.{◌+◌, ℕ, Bool, nat_lt, List, filter}
use Rattle.repo_name.specs.declared.rows.LockRow.{LockRow}
use Rattle.repo_name.specs.declared.tokens.Token.{Token}
use Rattle.repo_locks.specs.TokenMachine.{tokens_of}

-- how many seconds a lock's time may lie in the past before the lock is stale
abbrev pub stale_age : ℕ
stale_age = 1800

-- a row's time lies further in the past
abbrev pub is_stale : ℕ → LockRow → Bool
is_stale now row = nat_lt (row.time + stale_age) now

-- the tokens of the stale rows, in the rows' order
abbrev pub stale_tokens : ℕ → List LockRow → List Token
stale_tokens now rows = tokens_of (filter (is_stale now) rows)
