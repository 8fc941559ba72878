use Rattle.std.specs.Prelude.{◌≡◌, ℕ, List, map}
use Rattle.std.specs.Map.{values_of}
use Rattle.repo_name.specs.declared.rows.LockRow.{LockRow}
use Rattle.repo_name.specs.declared.tokens.Token.{Token}
use Rattle.repo_locks.specs.Lawful.{Ascends}

-- tokens ascend, from 1 on
abbrev pub AreAscending : List Token → Type 0
AreAscending ts = (high : ℕ) × Ascends 0 high ts

-- a row, under its token
abbrev pub under_token : LockRow → Token × LockRow
under_token row = (row.token, row)

-- each row of a map's entries stands under its token
abbrev pub AreUnderTokens : List (Token × LockRow) → Type 0
AreUnderTokens es = es ≡ map under_token (values_of es)
