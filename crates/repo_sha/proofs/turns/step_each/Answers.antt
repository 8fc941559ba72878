use Rattle.std.proofs.Common.{◌≡◌, ℕ, ◌+◌, ◌<◌, Option, None, IfSome, slice_index_or, arith}
use Rattle.sha2.specs.Sha256.{compress}
use Rattle.repo_sha.specs.declared.pieces.Piece.{Piece}
use Rattle.repo_sha.specs.inner.Batches.{at}
use Rattle.repo_sha.specs.inner.Lanes.{lane}
use Rattle.repo_sha.specs.inner.Messages.{block_at}
use Rattle.repo_sha.proofs.BatchLemmas.{at_any, stepped}
use Rattle.repo_sha.proofs.LaneLemmas.{below_eight}
use Rattle.repo_sha.proofs.turns.step_each.Goals as goal

pub returns : goal.returns
returns c =
    let lanes = c.args.lanes.now in
    let step = c.args.step in
    let v = c.args.hashes in
    let after = c.compress_each.result in
    let goes : ℕ → Option Piece → Type 0 = λ j x. IfSome x (λ piece. piece.place + step < piece.message.count
    → lane j after ≡ compress (lane j v) (block_at piece.message.bytes.now (piece.place + step))) in
    let made = λ (j : ℕ) (lt : j < 8). c.compress_each.ensures j lt _ (c.first_words.ensures j lt) in
    below_eight (λ j. goes j (at lanes j))
    (at_any (goes 0) lanes 0 c.index-lanes-0.result None (omega arith) (stepped (slice_index_or lanes 0 c.index-lanes-0.result) step _ (lane 0 v) (lane 0 after) c.block_of.ensures (made 0 (omega arith))))
    (at_any (goes 1) lanes 1 c.index-lanes-1.result None (omega arith) (stepped (slice_index_or lanes 1 c.index-lanes-1.result) step _ (lane 1 v) (lane 1 after) c.block_of-2.ensures (made 1 (omega arith))))
    (at_any (goes 2) lanes 2 c.index-lanes-2.result None (omega arith) (stepped (slice_index_or lanes 2 c.index-lanes-2.result) step _ (lane 2 v) (lane 2 after) c.block_of-3.ensures (made 2 (omega arith))))
    (at_any (goes 3) lanes 3 c.index-lanes-3.result None (omega arith) (stepped (slice_index_or lanes 3 c.index-lanes-3.result) step _ (lane 3 v) (lane 3 after) c.block_of-4.ensures (made 3 (omega arith))))
    (at_any (goes 4) lanes 4 c.index-lanes-4.result None (omega arith) (stepped (slice_index_or lanes 4 c.index-lanes-4.result) step _ (lane 4 v) (lane 4 after) c.block_of-5.ensures (made 4 (omega arith))))
    (at_any (goes 5) lanes 5 c.index-lanes-5.result None (omega arith) (stepped (slice_index_or lanes 5 c.index-lanes-5.result) step _ (lane 5 v) (lane 5 after) c.block_of-6.ensures (made 5 (omega arith))))
    (at_any (goes 6) lanes 6 c.index-lanes-6.result None (omega arith) (stepped (slice_index_or lanes 6 c.index-lanes-6.result) step _ (lane 6 v) (lane 6 after) c.block_of-7.ensures (made 6 (omega arith))))
    (at_any (goes 7) lanes 7 c.index-lanes-7.result None (omega arith) (stepped (slice_index_or lanes 7 c.index-lanes-7.result) step _ (lane 7 v) (lane 7 after) c.block_of-8.ensures (made 7 (omega arith))))
