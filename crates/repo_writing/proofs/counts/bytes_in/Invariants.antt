-- The bytes of the blobs that were looked at are counted.
use Rattle.std.proofs.Common.{◌≡◌, ◌-◌, ◌^◌, take, min}
use Rattle.std.specs.List.{sum_by}
use Rattle.repo_pack.specs.declared.places.PlacedBlob.{PlacedBlob}
use Rattle.repo_writing.proofs.counts.bytes_in.Given as goal

abbrev pub invariant-loop-blob : goal.invariant-loop-blob
invariant-loop-blob l = l.bytes ≡ min (sum_by (λ (b : PlacedBlob). b.place.length) (take l.blob-index l.blobs)) (2 ^ 64 - 1)
