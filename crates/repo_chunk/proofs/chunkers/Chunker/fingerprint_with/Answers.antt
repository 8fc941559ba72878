use Rattle.std.proofs.Common.{◌≡◌, ◌-◌, length, drop, min, ap, ◌∙◌, arith}
use Rattle.repo_chunk.proofs.Linear.{remainder-lt}
use Rattle.repo_chunk.proofs.Cutting.{counted_on}
use Rattle.repo_chunk.proofs.chunkers.Chunker.fingerprint_with.Goals as goal

pub with_bytes-requires : goal.with_bytes-requires
with_bytes-requires c =
    omega (arith, c.args.self.now.rolled, remainder-lt (drop (c.args.self.now.params.min - c.args.self.now.taken) c.args.self.now.window))

pub returns : goal.returns
returns c =
    let passed : c.min-2.result ≡ min (length c.args.bytes.now) (c.args.self.now.params.min - c.args.self.now.taken - 64) =
    omega (arith, c.min-2.ensures) in
    counted_on c.args.self.now.window c.args.bytes.now c.split_at.result.1.now
    (c.args.self.now.params.min - c.args.self.now.taken) c.args.self.now.fingerprint c.with_bytes.result (omega arith)
    (c.split_at.ensures.back ∙ ap (λ n. drop n c.args.bytes.now) passed) c.args.self.now.rolled c.with_bytes.ensures.value
