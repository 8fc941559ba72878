use Rattle.std.proofs.Common.{◌++◌, ℕ, List, length, sym, ap, subst, ◌∙◌, arith}
use Rattle.std.specs.List.{All}
use Rattle.repo_pack.specs.declared.rows.Row.{Row}
use Rattle.repo_pack.specs.declared.places.PlacedBlob.{PlacedBlob}
use Rattle.repo_pack.specs.PackLayout.{IsTruePack, IsWithin}
use Rattle.repo_pack.specs.PackWriting.{Packing, IsFilled, ending_of, placed_from, ArePlaced}
use Rattle.repo_pack.proofs.WriterLemmas.{sealed_is, sealed_length, lengths_small, placed_are, placed_within}
use Rattle.repo_pack.proofs.writers.PackWriter.seal.Goals as goal

pub finish-requires-clause-small : goal.finish-requires-clause-small
finish-requires-clause-small c =
    rw c.deref.ensures.value (lengths_small c.self.inside.rows.items c.self.inside.blobs.items c.self.inside.target _ c.self.invariant)

-- the bytes that end in the header of some rows
ended : List ℕ → List Row → List ℕ
ended blobs rows = blobs ++ ending_of rows

pub returns-in-Ok-clause-pack : goal.returns-in-Ok-clause-pack
unfolding ended
returns-in-Ok-clause-pack c =
    let rows = c.self.inside.rows.items in
    let blobs = c.self.inside.blobs.items in
    let items = c.args.self.items in
    let filled = subst (IsFilled rows blobs c.self.inside.target) (ap (λ (p : Packing). p.items) c.self.view_is) c.self.invariant in
    let bytes = c.of.ensures ∙ c.in-Ok.ensures.ok ∙ ap (ended blobs) c.deref.ensures.value in
    subst (λ (x : List ℕ). IsTruePack x items) (sym bytes) (sealed_is rows blobs c.self.inside.target items filled c.requires)

pub returns-in-Ok-clause-placed : goal.returns-in-Ok-clause-placed
returns-in-Ok-clause-placed c =
    let rows = c.self.inside.rows.items in
    let blobs = c.self.inside.blobs.items in
    let items = c.args.self.items in
    let filled = subst (IsFilled rows blobs c.self.inside.target) (ap (λ (p : Packing). p.items) c.self.view_is) c.self.invariant in
    let placed = c.in-Ok.ensures.placed ∙ ap (placed_from c.in-Ok.name 0) (c.deref.ensures.value ∙ filled.rows_are) in
    subst (ArePlaced c.in-Ok.name items) (sym placed) (placed_are c.in-Ok.name items)

pub returns-in-Ok-clause-within : goal.returns-in-Ok-clause-within
returns-in-Ok-clause-within c =
    let rows = c.self.inside.rows.items in
    let blobs = c.self.inside.blobs.items in
    let items = c.args.self.items in
    let filled = subst (IsFilled rows blobs c.self.inside.target) (ap (λ (p : Packing). p.items) c.self.view_is) c.self.invariant in
    let placed = c.in-Ok.ensures.placed ∙ ap (placed_from c.in-Ok.name 0) (c.deref.ensures.value ∙ filled.rows_are) in
    subst (All (λ (blob : PlacedBlob). IsWithin blob.place.offset blob.place.length)) (sym placed) (placed_within c.in-Ok.name rows blobs c.self.inside.target items filled)

pub returns-in-Ok-clause-size : goal.returns-in-Ok-clause-size
unfolding ended
returns-in-Ok-clause-size c =
    let rows = c.self.inside.rows.items in
    let blobs = c.self.inside.blobs.items in
    let bytes = c.of.ensures ∙ c.in-Ok.ensures.ok ∙ ap (ended blobs) c.deref.ensures.value in
    omega (arith, ap length bytes, sealed_length rows blobs c.self.inside.target _ c.self.invariant)
