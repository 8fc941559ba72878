use Rattle.std.proofs.Common.{◌≡◌, ◌+◌, ◌<◌, rules, ap, sym, ◌∙◌, arith}
use Rattle.sha2.specs.Sha256.{compress, initial_hash_256, padded_message}
use Rattle.sha2.proofs.Absorbing256.{hash_after_next}
use Rattle.repo_sha.specs.inner.Messages.{block_at, hash_to}
use Rattle.repo_sha.proofs.streams.take_eight.Goals as goal

pub lanes-preserved : goal.lanes-preserved
lanes-preserved c =
    let m = c.args.message.now.bytes.now in
    let at = c.args.place + c.lanes.lane in
    let low : c.lanes.lane < 8 = search rules in
    let within : at < c.args.message.now.count = search rules in
    let on : at + 1 ≡ c.args.place + (c.lanes.lane + 1) = omega arith in
    c.compress-after.ensures (block_at m at) (c.put_sums_at.ensures c.lanes.lane low within)
    ∙ ap (λ h. compress h (block_at m at)) c.lanes.invariant
    ∙ sym (hash_after_next initial_hash_256 (padded_message m) at)
    ∙ ap (hash_to m) on
