use Rattle.std.specs.Prelude.{◌≡◌, Some}
use Rattle.repo_locks.specs.TokenMachine.{Tokens}
use Rattle.repo_locks.specs.Lawful.{IsLedger}
use Rattle.repo_locks.specs.LedgerBytes.{ledger_bytes}
use Rattle.repo_folder.specs.Ledgers.{tokens_in}

-- a ledger's bytes spell that ledger
abbrev pub LedgersReadBack : Type 0
LedgersReadBack = (l : Tokens) → IsLedger l → tokens_in (Some (ledger_bytes l)) ≡ l
