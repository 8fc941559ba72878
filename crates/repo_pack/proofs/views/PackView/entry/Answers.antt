use Rattle.std.proofs.Common.{length, ap, subst, arith, ◌∙◌}
use Rattle.std.specs.Prelude.{slice_get}
use Rattle.repo_pack.specs.PackReading.{items_in, IsLaidOut}
use Rattle.repo_pack.proofs.ViewLemmas.{count_there, found_at, some_and, row_there, offset_there}
use Rattle.repo_pack.proofs.views.PackView.entry.Goals as goal

pub row_and_offset-offset-requires : goal.row_and_offset-offset-requires
row_and_offset-offset-requires c =
    let header = c.self.inside.header.now in
    let blobs = c.self.inside.blobs.now in
    let count = count_there header blobs (items_in header blobs) c.self.invariant in
    let n = ap length c.self.view_is in
    (omega arith, omega arith)

pub returns : goal.returns
returns c =
    let header = c.self.inside.header.now in
    let blobs = c.self.inside.blobs.now in
    let place = c.args.place in
    let items = c.args.self.now in
    let laid = subst (IsLaidOut header blobs) c.self.view_is c.self.invariant in
    let item = found_at items place c.requires in
    let row = c.row_and_offset-offset.ensures.row ∙ row_there header blobs items laid place item.0 item.1 in
    let offset = c.row_and_offset-offset.ensures.offset ∙ offset_there header blobs items laid place (omega arith) in
    some_and (slice_get items place) item.0 _ item.1 (λ i. record { kind = (row i).kind; name = (row i).name; offset = offset i; length = (row i).length })
