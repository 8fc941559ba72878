use Rattle.std.proofs.Common.{◌≡◌, ◌∙◌, Some, subst, refl}
use Rattle.repo_locks.specs.LedgerBytes.{ledger_bytes}
use Rattle.repo_disk.specs.Disks.{State}
use Rattle.repo_disk.specs.declared.rooms.Room.{Room}
use Rattle.repo_store.specs.Stores.{SavesTokens}
use Rattle.repo_folder.specs.Folders.{Comes, Keeps}
use Rattle.repo_folder.specs.Spelling.{ledger_name}
use Rattle.repo_folder.proofs.SpellingLemmas.{saves_tokens, kept_told}
use Rattle.repo_folder.proofs.dir_shelf.DirShelfShelf.save_ledger.Goals as goal

pub returns-clause-law : goal.returns-clause-law
returns-clause-law g c h =
    let ledger = c.args.ledger.now in
    let old = g.D.Disk.state c.args.self.now.folder.disk in
    let new = g.D.Disk.state c.keep.new.self.disk in
    let bytes : c.as_slice.result.now ≡ ledger_bytes ledger = c.as_slice.ensures.value ∙ c.in_ok-bytes.ensures.bytes in
    let W : State → State → Type 0 = Comes Room.Top ledger_name (Some (ledger_bytes ledger)) in
    kept_told old new W (SavesTokens ledger) (saves_tokens old new ledger c.in_ok-bytes.ensures.lawful) c.keep.result c.told.result c.told.ensures
    (subst (λ text. Keeps (Comes Room.Top ledger_name (Some text)) old c.keep.result new) bytes (c.keep.ensures.law h.0))

pub keep-requires-clause-draft : goal.keep-requires-clause-draft
keep-requires-clause-draft g c = (ledger_name, refl)
