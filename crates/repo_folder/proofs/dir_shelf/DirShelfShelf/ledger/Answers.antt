use Rattle.std.proofs.Common.{◌≡◌, ◌∙◌, ℕ, List, Option, sym, subst}
use Rattle.repo_disk.specs.declared.rooms.Room.{Room}
use Rattle.repo_folder.specs.Folders.{Shows}
use Rattle.repo_folder.specs.Spelling.{ledger_name}
use Rattle.repo_folder.proofs.SpellingLemmas.{ledger_read, told_ok}
use Rattle.repo_folder.proofs.dir_shelf.DirShelfShelf.ledger.Goals as goal

pub returns-clause-law : goal.returns-clause-law
returns-clause-law g c h =
    let old = g.D.Disk.state c.args.self.now.folder.disk in
    let new = g.D.Disk.state c.read.new.self.disk in
    let P : Option (List ℕ) → Type 0 = λ found. found ≡ old.fate Room.Top ledger_name in
    let is = told_ok c.read.result c.in_ok-bytes.bytes (sym c.told.ensures ∙ c.in_ok-bytes.was) in
    let law = subst (λ r. Shows P old r new) is (c.read.ensures.law h.0) in
    let had = h.1 in
    ledger_read old new c.ledger_of.result had (c.ledger_of.ensures.ok had.0 had.1.0 (law.0 ∙ had.1.1)) law.1
