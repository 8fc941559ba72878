use Rattle.std.proofs.Common.{◌≡◌, ◌+◌, ◌<◌, arith}
use Rattle.repo_sha.specs.inner.Messages.{block_at}
use Rattle.repo_sha.specs.inner.Schedules.{HasSums}
use Rattle.repo_sha.proofs.LaneLemmas.{below_eight}
use Rattle.repo_sha.proofs.streams.put_sums_at.Goals as goal

pub returns : goal.returns
returns c j eight within =
    let m = c.args.message.now.bytes.now in
    let sums = c.put_sums.new.sums in
    let put = c.put_sums.ensures in
    let at : c.args.place + 0 ≡ c.args.place = omega arith in
    below_eight (λ i. c.args.place + i < c.args.message.now.count → HasSums i sums (block_at m (c.args.place + i)) 64)
    (λ lt. rw (at, ← c.block.ensures (omega arith)) (put 0 (omega arith)))
    (λ lt. rw (← c.block-2.ensures lt) (put 1 (omega arith)))
    (λ lt. rw (← c.block-3.ensures lt) (put 2 (omega arith)))
    (λ lt. rw (← c.block-4.ensures lt) (put 3 (omega arith)))
    (λ lt. rw (← c.block-5.ensures lt) (put 4 (omega arith)))
    (λ lt. rw (← c.block-6.ensures lt) (put 5 (omega arith)))
    (λ lt. rw (← c.block-7.ensures lt) (put 6 (omega arith)))
    (λ lt. rw (← c.block-8.ensures lt) (put 7 (omega arith)))
    j eight within
