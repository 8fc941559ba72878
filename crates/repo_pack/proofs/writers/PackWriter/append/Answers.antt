use Rattle.std.proofs.Common.{rules, ◌≡◌, ◌++◌, ◌∷◌, [], length, refl, sym, ap, subst, ◌∙◌, arith}
use Rattle.repo_name.specs.Naming.{IsName}
use Rattle.repo_pack.specs.PackLayout.{item_of, IsItem}
use Rattle.repo_pack.specs.PackReading.{items_of}
use Rattle.repo_pack.specs.PackWriting.{IsOpen, IsFilled, row_of, with_item}
use Rattle.repo_pack.proofs.WriterLemmas.{filled_push, shows_push}
use Rattle.repo_pack.proofs.writers.PackWriter.append.Goals as goal

pub invariant_of-self-2 : goal.invariant_of-self-2
invariant_of-self-2 c =
    let rows = c.self.inside.rows.items in
    let blobs = c.self.inside.blobs.items in
    let target = c.self.inside.target in
    let items = items_of rows blobs in
    let filled = c.self.invariant in
    let item = item_of c.args.row.kind c.args.bytes.now in
    let row : c.args.row ≡ row_of item = λ i. record { kind = c.args.row.kind; name = c.requires.name i; length = c.requires.row i } in
    let room = subst IsOpen (sym c.self.view_is) c.requires.room in
    let short = ap length filled.blobs_are in
    let is : IsItem item = (c.requires.size, subst IsName c.requires.name c.requires.whole) in
    let more = filled_push rows blobs target items filled item is refl room.1 (omega arith) in
    let new_rows : c.push.new.self.items ≡ rows ++ row_of item ∷ [] = search rules in
    let new_blobs : c.extend_from_slice.new.self.items ≡ blobs ++ item.bytes = search rules in
    rw (new_rows, new_blobs) (subst (IsFilled (rows ++ row_of item ∷ []) (blobs ++ item.bytes) target) (sym (shows_push rows blobs target items filled item)) more)

pub returns-clause-ok : goal.returns-clause-ok
returns-clause-ok c =
    let rows = c.self.inside.rows.items in
    let blobs = c.self.inside.blobs.items in
    let target = c.self.inside.target in
    let items = items_of rows blobs in
    let item = item_of c.args.row.kind c.args.bytes.now in
    let row : c.args.row ≡ row_of item = λ i. record { kind = c.args.row.kind; name = c.requires.name i; length = c.requires.row i } in
    let new_rows : c.push.new.self.items ≡ rows ++ row_of item ∷ [] = search rules in
    let new_blobs : c.extend_from_slice.new.self.items ≡ blobs ++ item.bytes = search rules in
    rw (new_rows, new_blobs) ((λ i. record { items = shows_push rows blobs target items c.self.invariant item i; target = target }) ∙ ap (λ packing. with_item packing item) c.self.view_is)
