use Rattle.std.proofs.Common.{◌≡◌, ℕ, List, Option}
use Rattle.repo_disk.specs.declared.rooms.Room.{Room}
use Rattle.repo_folder.specs.Spelling.{config_name}
use Rattle.repo_folder.proofs.SpellingLemmas.{shown_told}
use Rattle.repo_folder.proofs.dir_shelf.DirShelfShelf.config.Goals as goal

pub returns-clause-law : goal.returns-clause-law
returns-clause-law g c h =
    let old = g.D.Disk.state c.args.self.now.folder.disk in
    let P : Option (List ℕ) → Type 0 = λ found. found ≡ old.fate Room.Top config_name in
    shown_told old (g.D.Disk.state c.read.new.self.disk) P P (λ x e. e) c.read.result c.told.result c.told.ensures (c.read.ensures.law h.0)
