use Rattle.std.proofs.Common.{rules, ◌≡◌, ◌∙◌, ℕ, List, Option, sym}
use Rattle.repo_name.specs.Naming.{hex_of}
use Rattle.repo_folder.specs.Spelling.{object_in}
use Rattle.repo_folder.proofs.SpellingLemmas.{object_of, shown_told}
use Rattle.repo_folder.proofs.dir_shelf.DirShelfShelf.get.Goals as goal

pub returns-clause-law : goal.returns-clause-law
returns-clause-law g c h =
    let kind = c.args.kind in
    let name = c.args.name.now in
    let old = g.D.Disk.state c.args.self.now.folder.disk in
    let file : c.as_str.result.now ≡ hex_of name = search rules in
    let P : Option (List ℕ) → Type 0 = λ found. found ≡ old.fate c.room_of.result c.as_str.result.now in
    let Q : Option (List ℕ) → Type 0 = λ found. found ≡ object_in old.fate kind name in
    shown_told old (g.D.Disk.state c.read.new.self.disk) P Q (λ x e. e ∙ (λ i. old.fate (c.room_of.ensures.room i) (file i)) ∙ sym (object_of old.fate kind name c.in_ok-file.ensures.name))
    c.read.result c.told.result c.told.ensures (c.read.ensures.law h.0)
