use Rattle.std.proofs.Common.{rules, ◌≡◌, subst}
use Rattle.repo_name.specs.Naming.{hex_of}
use Rattle.repo_disk.specs.Disks.{State}
use Rattle.repo_store.specs.Stores.{PutsObject}
use Rattle.repo_folder.specs.Folders.{Puts, Keeps}
use Rattle.repo_folder.specs.Spelling.{room_of}
use Rattle.repo_folder.proofs.SpellingLemmas.{puts, kept_told}
use Rattle.repo_folder.proofs.dir_shelf.DirShelfShelf.put.Goals as goal

pub returns-clause-law : goal.returns-clause-law
returns-clause-law g c h =
    let kind = c.args.kind in
    let name = c.args.name.now in
    let bytes = c.args.bytes.now in
    let old = g.D.Disk.state c.args.self.now.folder.disk in
    let new = g.D.Disk.state c.put.new.self.disk in
    let file : c.as_str-3.result.now ≡ hex_of name = search rules in
    let made = subst (λ room. Keeps (Puts room c.as_str-3.result.now bytes) old c.put.result new) c.room_of.ensures.room (c.put.ensures.law h.0) in
    let W : State → State → Type 0 = Puts (room_of kind name) (hex_of name) bytes in
    kept_told old new W (PutsObject kind name bytes) (puts old new kind name bytes c.in_ok-file.ensures.name) c.put.result c.told.result c.told.ensures
    (subst (λ text. Keeps (Puts (room_of kind name) text bytes) old c.put.result new) file made)
