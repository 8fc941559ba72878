use Rattle.std.proofs.Common.{rules, ◌≡◌, ◌-◌, ◌++◌, ◌∷◌, [], List, length, map, take, sym, ap, subst, ◌∙◌}
use Rattle.repo_pack.specs.PackLayout.{Item, blobs_of}
use Rattle.repo_pack.specs.PackReading.{items_of}
use Rattle.repo_pack.specs.PackWriting.{IsFilled, row_of}
use Rattle.repo_pack.proofs.WriterLemmas.{ends_in, front_bytes, filled_pop, filled_shows}
use Rattle.repo_pack.proofs.writers.PackWriter.pop.Goals as goal

-- the items end in the one that is taken out, and the rows and the bytes that are left are those of the ones before it
parted : (c : goal.After-truncate) → (front : List Item) × (item : Item) × (items_of c.self.inside.rows.items c.self.inside.blobs.items ≡ front ++ item ∷ [])
    × (c.pop.new.self.items ≡ map row_of front) × (c.truncate.new.self.items ≡ blobs_of front) × (c.in-Some.field-0 ≡ row_of item)
parted c =
    let rows = c.pop.new.self.items in
    let blobs = c.truncate.new.self.items in
    let old = c.self.inside.rows.items in
    let whole = c.self.inside.blobs.items in
    let row = c.in-Some.field-0 in
    let split : old ≡ rows ++ row ∷ [] = search rules in
    let k = ends_in rows row (items_of old whole) (sym split ∙ c.self.invariant.rows_are) in
    let here : whole ≡ blobs_of (k.0 ++ k.1 ∷ []) = c.self.invariant.blobs_are ∙ ap blobs_of k.2 in
    let size : row.length ≡ length k.1.bytes = λ i. (k.4 i).length in
    let short : blobs ≡ take (length whole - row.length) whole = search rules in
    (k.0, k.1, k.2, k.3, short ∙ (λ i. take (length (here i) - size i) (here i)) ∙ front_bytes k.0 k.1, k.4)

pub invariant_of-self-2 : goal.invariant_of-self-2
invariant_of-self-2 c =
    let rows = c.pop.new.self.items in
    let blobs = c.truncate.new.self.items in
    let old = c.self.inside.rows.items in
    let whole = c.self.inside.blobs.items in
    let target = c.self.inside.target in
    let k = parted c in
    let filled = filled_pop rows blobs target k.0 k.1 k.3 k.4 old whole (subst (IsFilled old whole target) k.2 c.self.invariant) in
    subst (IsFilled rows blobs target) (sym (filled_shows rows blobs k.0 k.3 k.4)) filled

pub returns-clause-popped : goal.returns-clause-popped
returns-clause-popped c =
    let rows = c.pop.new.self.items in
    let blobs = c.truncate.new.self.items in
    let k = parted c in
    let shown = k.2 ∙ ap (λ l. l ++ k.1 ∷ []) (sym (filled_shows rows blobs k.0 k.3 k.4)) in
    (k.1, sym c.self.view_is ∙ (λ i. record { items = shown i; target = c.self.inside.target }), (λ i. (k.5 i).kind), (λ i. (k.5 i).name))
