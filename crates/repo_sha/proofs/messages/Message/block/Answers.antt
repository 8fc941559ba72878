use Rattle.std.proofs.Common.{◌≡◌, ◌*◌, ◌-◌, ◌/◌, [], take, drop, length, slice_index_or, ap, ◌∙◌, arith}
use Rattle.repo_sha.proofs.MessageLemmas.{block_beyond, block_count_is, block_within, chunk_at}
use Rattle.repo_sha.proofs.messages.Message.block.Goals as goal

pub returns-then-place-whole : goal.returns-then-place-whole
returns-then-place-whole c lt =
    let m = c.args.self.now.bytes.now in
    ap (λ blocks. slice_index_or blocks c.args.place []) c.as_chunks.ensures.front
    ∙ chunk_at (length m / 64) c.args.place m (omega (arith, c.as_chunks.ensures.front_len))
    ∙ block_within m c.args.place (omega (arith, c.as_chunks.ensures.front_len))

pub returns-then-place-whole-2 : goal.returns-then-place-whole-2
returns-then-place-whole-2 c lt =
    let message = c.args.self.now in
    let m = message.bytes.now in
    let place : 0 ≡ c.args.place - length m / 64 = omega (arith, c.as_chunks.ensures.front_len) in
    ap (λ blocks. slice_index_or blocks 0 []) c.as_chunks-2.ensures.front
    ∙ chunk_at (length message.last / 64) 0 message.last (omega (arith, c.as_chunks-2.ensures.front_len))
    ∙ ap (λ i. take 64 (drop (i * 64) message.last)) place
    ∙ block_beyond m message.last c.args.place message.ending (omega (arith, c.as_chunks.ensures.front_len)) (omega (arith, message.counted))

pub returns-else-place-whole-2 : goal.returns-else-place-whole-2
returns-else-place-whole-2 c lt =
    let message = c.args.self.now in
    let m = message.bytes.now in
    let place : 1 ≡ c.args.place - length m / 64 = omega (arith, c.as_chunks.ensures.front_len, block_count_is m, message.counted, c.if-place-whole-2.false) in
    ap (λ blocks. slice_index_or blocks 1 []) c.as_chunks-2.ensures.front
    ∙ chunk_at (length message.last / 64) 1 message.last (omega (arith, c.as_chunks-2.ensures.front_len))
    ∙ ap (λ i. take 64 (drop (i * 64) message.last)) place
    ∙ block_beyond m message.last c.args.place message.ending (omega (arith, c.as_chunks.ensures.front_len)) (omega (arith, message.counted))
