use Rattle.std.proofs.Common.{◌≡◌, ℕ, List, take, sym, ap, subst, ◌∙◌, arith}
use Rattle.std.specs.Prelude.{slice_get, IsSomeAnd}
use Rattle.repo_pack.specs.PackLayout.{Item}
use Rattle.repo_pack.specs.PackReading.{IsLaidOut}
use Rattle.repo_pack.proofs.ViewLemmas.{entry_within, entry_blob}
use Rattle.repo_pack.proofs.views.PackView.blob.Goals as goal

pub split_at-requires : goal.split_at-requires
split_at-requires c =
    let header = c.self.inside.header.now in
    let blobs = c.self.inside.blobs.now in
    let laid = subst (IsLaidOut header blobs) c.self.view_is c.self.invariant in
    omega (arith, entry_within header blobs c.args.self.now laid c.args.place c.entry-entry.result c.requires c.entry-entry.ensures)

pub split_at-requires-2 : goal.split_at-requires-2
split_at-requires-2 c =
    let header = c.self.inside.header.now in
    let blobs = c.self.inside.blobs.now in
    let laid = subst (IsLaidOut header blobs) c.self.view_is c.self.invariant in
    omega (arith, entry_within header blobs c.args.self.now laid c.args.place c.entry-entry.result c.requires c.entry-entry.ensures)

pub returns : goal.returns
returns c =
    let header = c.self.inside.header.now in
    let blobs = c.self.inside.blobs.now in
    let items = c.args.self.now in
    let laid = subst (IsLaidOut header blobs) c.self.view_is c.self.invariant in
    let says = entry_blob header blobs items laid c.args.place c.entry-entry.result c.requires c.entry-entry.ensures in
    let bytes = c.split_at-2.ensures.front ∙ ap (take c.entry-entry.result.length) c.split_at.ensures.back in
    subst (λ (t : List ℕ). IsSomeAnd (slice_get items c.args.place) (λ (item : Item). t ≡ item.bytes)) (sym bytes) says
