use Rattle.std.proofs.Common.{arith, ◌≡◌, ℕ, List, length, ap}
use Rattle.std.specs.List.{sum_by}
use Rattle.repo_pack.specs.declared.places.PlacedBlob.{PlacedBlob}
use Rattle.repo_writing.proofs.Writings.{counts_more}
use Rattle.repo_writing.proofs.counts.Counts.add.Goals as goal

pub returns : goal.returns
returns c = λ before items is.
    let placed = c.args.sealed.now.blobs.items in
    let n : length c.as_slice-blobs.result.now ≡ length placed = ap length c.as_slice-blobs.ensures.value in
    let S : List PlacedBlob → ℕ = sum_by (λ (b : PlacedBlob). b.place.length) in
    let m = ap S c.as_slice-blobs.ensures.value in
    counts_more c.args.self.now _ before items c.args.sealed.now is (omega (arith, n, c.saturating_add-self.ensures)) (omega (arith, m, c.bytes_in.ensures, c.saturating_add-self-2.ensures))
