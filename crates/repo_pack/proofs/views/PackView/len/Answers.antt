use Rattle.std.proofs.Common.{ap, length, arith}
use Rattle.repo_pack.specs.PackReading.{items_in}
use Rattle.repo_pack.proofs.ViewLemmas.{count_there}
use Rattle.repo_pack.proofs.views.PackView.len.Goals as goal

pub returns : goal.returns
returns c =
    let header = c.self.inside.header.now in
    let blobs = c.self.inside.blobs.now in
    omega (arith, ap length c.self.view_is, (count_there header blobs (items_in header blobs) c.self.invariant).1)
