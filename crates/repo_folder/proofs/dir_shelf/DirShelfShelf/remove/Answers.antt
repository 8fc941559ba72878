use Rattle.std.proofs.Common.{rules, ◌≡◌, None, subst}
use Rattle.repo_name.specs.Naming.{hex_of}
use Rattle.repo_disk.specs.Disks.{State}
use Rattle.repo_store.specs.Stores.{RemovesObject}
use Rattle.repo_folder.specs.Folders.{Comes, Keeps}
use Rattle.repo_folder.specs.Spelling.{room_of}
use Rattle.repo_folder.proofs.SpellingLemmas.{removes, kept_told}
use Rattle.repo_folder.proofs.dir_shelf.DirShelfShelf.remove.Goals as goal

pub returns-clause-law : goal.returns-clause-law
returns-clause-law g c h =
    let kind = c.args.kind in
    let name = c.args.name.now in
    let old = g.D.Disk.state c.args.self.now.folder.disk in
    let new = g.D.Disk.state c.take.new.self.disk in
    let file : c.as_str.result.now ≡ hex_of name = search rules in
    let made = subst (λ room. Keeps (Comes room c.as_str.result.now None) old c.take.result new) c.room_of.ensures.room (c.take.ensures.law h.0) in
    let W : State → State → Type 0 = Comes (room_of kind name) (hex_of name) None in
    kept_told old new W (RemovesObject kind name) (removes old new kind name c.in_ok-file.ensures.name) c.take.result c.told.result c.told.ensures
    (subst (λ text. Keeps (Comes (room_of kind name) text None) old c.take.result new) file made)
