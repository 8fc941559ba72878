use Rattle.std.specs.Prelude.{◌≡◌, ◌≤◌, ◌<◌, ◌^◌, ◌++◌, ℕ, List, length, All, ◌≢◌}
use Rattle.std.specs.List.{flat_map}
use Rattle.repo_name.specs.Rows.{number, count, rows_bytes, IsRow}
use Rattle.repo_name.specs.declared.rows.RowError.{RowError}
use Rattle.repo_name.specs.declared.tokens.Token.{Token}
use Rattle.repo_locks.specs.declared.outcomes.LedgerError.{LedgerError}
use Rattle.repo_locks.specs.TokenMachine.{Tokens, fresh_limit, live_limit}
use Rattle.repo_locks.specs.Lawful.{IsLedger}

-- a token in bytes
abbrev pub token_bytes : Token → List ℕ
token_bytes t = number t.0

-- fresh numbers in bytes: how many, and each
abbrev pub fresh_bytes : List Token → List ℕ
fresh_bytes ts = count (length ts) ++ flat_map token_bytes ts

-- a ledger in bytes: the next number, the fresh ones, and the rows of the live ones
abbrev pub ledger_bytes : Tokens → List ℕ
ledger_bytes l = number l.next ++ fresh_bytes l.fresh ++ rows_bytes l.live

-- a number of 64 bits
abbrev pub IsNumber : Token → Type 0
IsNumber t = t.0 < 2 ^ 64

-- a state whose parts fit their places in bytes, lawful or not
pub record FitsBytes (l : Tokens) : Type 0 where
  pub next : l.next < 2 ^ 64
  pub few_fresh : length l.fresh ≤ fresh_limit
  pub fresh : All IsNumber l.fresh
  pub few_live : length l.live ≤ live_limit
  pub live : All IsRow l.live

-- the bytes of a state whose parts fit them
abbrev pub HasBytes : Tokens → List ℕ → Type 0
HasBytes l bytes = FitsBytes l × (bytes ≡ ledger_bytes l)

-- what a row's fault is to a ledger
abbrev pub ledger_error : RowError → LedgerError
ledger_error RowError.Shape = LedgerError.Shape
ledger_error RowError.Memory = LedgerError.Memory

-- one text for one state
abbrev pub LedgersAreOne : Type 0
LedgersAreOne = (a b : Tokens) → IsLedger a → IsLedger b → ledger_bytes a ≡ ledger_bytes b → a ≡ b

-- the bytes of no so many numbers stand at the front
abbrev pub HasNoNumbers : ℕ → List ℕ → Type 0
HasNoNumbers n bytes = (ts : List Token) (rest : List ℕ) → length ts ≡ n → All IsNumber ts → bytes ≢ flat_map token_bytes ts ++ rest

-- the bytes of no fresh numbers stand at the front
abbrev pub HasNoFresh : List ℕ → Type 0
HasNoFresh bytes = (ts : List Token) (rest : List ℕ) → length ts ≤ fresh_limit → All IsNumber ts → bytes ≢ fresh_bytes ts ++ rest
