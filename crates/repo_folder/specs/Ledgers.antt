-- The ledger that some bytes spell.
use Rattle.std.specs.Prelude.{◌==◌, ℕ, zero, suc, List, [], ◌∷◌, take, drop, Option, Some, None}
use Rattle.std.specs.Int.{w16, w64, from_be_bytes}
use Rattle.repo_name.specs.declared.rows.LockRow.{LockRow}
use Rattle.repo_name.specs.declared.tokens.Token.{Token}
use Rattle.repo_locks.specs.TokenMachine.{Tokens, start}

-- a list's first number, and the rest
abbrev pub first_of : List ℕ → ℕ
first_of [] = 0
first_of (b ∷ bs) = b

abbrev pub rest_of : List ℕ → List ℕ
rest_of [] = []
rest_of (b ∷ bs) = bs

-- the number at the front, and the count
abbrev pub number_in : List ℕ → ℕ
number_in bytes = from_be_bytes w64 (take 8 bytes)

abbrev pub count_in : List ℕ → ℕ
count_in bytes = from_be_bytes w16 (take 2 bytes)

-- so many numbers at the front, and what is behind them
abbrev pub numbers_in : ℕ → List ℕ → List Token
numbers_in zero bytes = []
numbers_in (suc n) bytes = record { 0 = number_in bytes } ∷ numbers_in n (drop 8 bytes)

abbrev pub after_numbers : ℕ → List ℕ → List ℕ
after_numbers zero bytes = bytes
after_numbers (suc n) bytes = after_numbers n (drop 8 bytes)

-- the host of a row, behind its length
abbrev pub host_at : List ℕ → List ℕ
host_at bytes = drop 8 (rest_of (drop 8 bytes))

-- the row at the front, and what is behind it
abbrev pub row_in : List ℕ → LockRow
row_in bytes = record {
  token = record { 0 = number_in bytes };
  exclusive = first_of (drop 8 bytes) == 1;
  time = number_in (rest_of (drop 8 bytes));
  host = take (first_of (host_at bytes)) (rest_of (host_at bytes));
}

abbrev pub after_row : List ℕ → List ℕ
after_row bytes = drop (first_of (host_at bytes)) (rest_of (host_at bytes))

-- so many rows at the front
abbrev pub rows_in : ℕ → List ℕ → List LockRow
rows_in zero bytes = []
rows_in (suc n) bytes = row_in bytes ∷ rows_in n (after_row bytes)

-- what is behind the fresh numbers of a ledger
abbrev pub after_fresh : List ℕ → List ℕ
after_fresh bytes = after_numbers (count_in (drop 8 bytes)) (drop 10 bytes)

-- the ledger that these bytes spell, if they are a ledger's
abbrev pub ledger_in : List ℕ → Tokens
ledger_in bytes = record {
  next = number_in bytes;
  fresh = numbers_in (count_in (drop 8 bytes)) (drop 10 bytes);
  live = rows_in (count_in (after_fresh bytes)) (drop 2 (after_fresh bytes));
}

-- the ledger of a file; before the first one is written none is given
abbrev pub tokens_in : Option (List ℕ) → Tokens
tokens_in None = start
tokens_in (Some bytes) = ledger_in bytes
