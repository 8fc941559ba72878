use Rattle.std.proofs.Common.{◌≡◌, ℕ, Option, None, IfSome, slice_index_or, arith}
use Rattle.repo_sha.specs.declared.pieces.Piece.{Piece}
use Rattle.repo_sha.specs.inner.Batches.{at}
use Rattle.repo_sha.specs.inner.Lanes.{lane}
use Rattle.repo_sha.proofs.BatchLemmas.{at_any, read}
use Rattle.repo_sha.proofs.LaneLemmas.{below_eight}
use Rattle.repo_sha.proofs.turns.hashes_of.Goals as goal

pub returns : goal.returns
returns c =
    let lanes = c.args.lanes.now in
    let v = c.side_by_side.result in
    let words = c.side_by_side.ensures in
    let has : ℕ → Option Piece → Type 0 = λ j x. IfSome x (λ piece. lane j v ≡ piece.hash) in
    below_eight (λ j. has j (at lanes j))
    (at_any (has 0) lanes 0 c.index-lanes-0.result None (omega arith) (read (slice_index_or lanes 0 c.index-lanes-0.result) v 0 c.hash_of.result c.hash_of.ensures (λ k below. words 0 k (omega arith) below)))
    (at_any (has 1) lanes 1 c.index-lanes-1.result None (omega arith) (read (slice_index_or lanes 1 c.index-lanes-1.result) v 1 c.hash_of-2.result c.hash_of-2.ensures (λ k below. words 1 k (omega arith) below)))
    (at_any (has 2) lanes 2 c.index-lanes-2.result None (omega arith) (read (slice_index_or lanes 2 c.index-lanes-2.result) v 2 c.hash_of-3.result c.hash_of-3.ensures (λ k below. words 2 k (omega arith) below)))
    (at_any (has 3) lanes 3 c.index-lanes-3.result None (omega arith) (read (slice_index_or lanes 3 c.index-lanes-3.result) v 3 c.hash_of-4.result c.hash_of-4.ensures (λ k below. words 3 k (omega arith) below)))
    (at_any (has 4) lanes 4 c.index-lanes-4.result None (omega arith) (read (slice_index_or lanes 4 c.index-lanes-4.result) v 4 c.hash_of-5.result c.hash_of-5.ensures (λ k below. words 4 k (omega arith) below)))
    (at_any (has 5) lanes 5 c.index-lanes-5.result None (omega arith) (read (slice_index_or lanes 5 c.index-lanes-5.result) v 5 c.hash_of-6.result c.hash_of-6.ensures (λ k below. words 5 k (omega arith) below)))
    (at_any (has 6) lanes 6 c.index-lanes-6.result None (omega arith) (read (slice_index_or lanes 6 c.index-lanes-6.result) v 6 c.hash_of-7.result c.hash_of-7.ensures (λ k below. words 6 k (omega arith) below)))
    (at_any (has 7) lanes 7 c.index-lanes-7.result None (omega arith) (read (slice_index_or lanes 7 c.index-lanes-7.result) v 7 c.hash_of-8.result c.hash_of-8.ensures (λ k below. words 7 k (omega arith) below)))
