use Rattle.repo_folder.proofs.LedgerLemmas.{ledger_one}
use Rattle.repo_folder.proofs.laws.ledgers_read_back.Goals as goal

pub returns : goal.returns
returns c = ledger_one
