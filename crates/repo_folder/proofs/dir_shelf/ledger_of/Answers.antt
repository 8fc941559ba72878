use Rattle.std.proofs.Common.{rules, ◌≡◌, ◌∙◌, Some, sym}
use Rattle.repo_locks.specs.LedgerBytes.{ledger_bytes}
use Rattle.repo_locks.proofs.Texts.{ledgers_one}
use Rattle.repo_folder.proofs.dir_shelf.ledger_of.Goals as goal

pub returns-in-Ok-clause-ok : goal.returns-in-Ok-clause-ok
returns-in-Ok-clause-ok c l is file =
    let bytes : c.as_slice.result.now ≡ ledger_bytes l = search rules in
    ledgers_one c.in-Ok.ledger l c.in-Ok.ensures.ok.0 is (sym c.in-Ok.ensures.ok.1 ∙ bytes)

pub returns-in-Ok-clause-read : goal.returns-in-Ok-clause-read
returns-in-Ok-clause-read c =
    let ledger = c.in-Ok.ledger in
    let file : c.args.file ≡ Some (ledger_bytes ledger) = search rules in
    (c.in-Ok.ensures.ok.0, file)
