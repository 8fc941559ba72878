use Rattle.std.proofs.Common.{rules, ◌≡◌, ◌∙◌, IfOk, sym, subst}
use Rattle.repo_name.specs.Naming.{hex_of}
use Rattle.repo_name.specs.declared.kinds.Kind.{Kind}
use Rattle.repo_disk.specs.Disks.{IsPart, HasLength}
use Rattle.repo_disk.specs.declared.files.Part.{Part}
use Rattle.repo_folder.specs.Folders.{Shows}
use Rattle.repo_folder.specs.Spelling.{object_in}
use Rattle.repo_folder.proofs.SpellingLemmas.{object_of, store_stays, told_ok}
use Rattle.repo_folder.proofs.dir_shelf.DirShelfShelf.range.Goals as goal

pub returns-in-Ok-clause-law : goal.returns-in-Ok-clause-law
returns-in-Ok-clause-law g c h =
    let pack = c.args.pack.now in
    let old = g.D.Disk.state c.args.self.now.folder.disk in
    let new = g.D.Disk.state c.read_part.new.self.disk in
    let file : c.as_str.result.now ≡ hex_of pack = search rules in
    let there : old.fate c.room_of-room.result c.as_str.result.now ≡ object_in old.fate Kind.Pack pack =
    (λ i. old.fate (c.room_of-room.ensures.room i) (file i)) ∙ sym (object_of old.fate Kind.Pack pack c.in_ok-file.ensures.name) in
    let is = told_ok c.read_part.result c.in-Ok.part (sym c.told.ensures ∙ c.in-Ok.is) in
    let P : Part → Type 0 = λ part. IsPart (old.fate c.room_of-room.result c.as_str.result.now) c.args.offset c.args.length part in
    let law = subst (λ r. Shows P old r new) is (c.read_part.ensures.law h.0) in
    (c.slice_of.ensures.slice (object_in old.fate Kind.Pack pack) c.args.offset c.args.length (subst (λ object. IsPart object c.args.offset c.args.length c.in-Ok.part) there law.0), store_stays old new law.1)

pub returns-in-Ok-clause-length : goal.returns-in-Ok-clause-length
returns-in-Ok-clause-length g c =
    let is = told_ok c.read_part.result c.in-Ok.part (sym c.told.ensures ∙ c.in-Ok.is) in
    c.slice_of.ensures.length c.args.length (subst (λ r. IfOk r (HasLength c.args.length)) is c.read_part.ensures.length)
