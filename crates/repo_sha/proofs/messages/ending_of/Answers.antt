use Rattle.std.proofs.Common.{◌≡◌, ◌+◌, ◌-◌, ◌*◌, ◌%◌, ◌^◌, length, arith}
use Rattle.std.specs.Int.{w64, to_be_bytes}
use Rattle.repo_sha.proofs.MessageLemmas.{ending_made}
use Rattle.repo_sha.proofs.messages.ending_of.Goals as goal
use Rattle.repo_sha.proofs.messages.ending_of.Goals.{then-rest, else-rest}

pub returns : goal.returns
returns c =
    let m = c.args.bytes.now in
    let end : c.if-rest.end ≡ length m % 64 + 9 + (119 - length m % 64) % 64 = elim c.if-rest.branch [
      | then-rest w ↦ omega (arith, c.as_chunks.ensures.back_len)
      | else-rest w ↦ omega (arith, c.as_chunks.ensures.back_len)
    ] in
    let bits : c.to_be_bytes.result ≡ to_be_bytes w64 (length m * 8 % 2 ^ 64) = rw c.bit_length.ensures at c.to_be_bytes.ensures in
    rw (c.copy_from_slice-2.ensures.after, c.copy_from_slice.ensures.after) (ending_made m c.as_chunks.result.1.now _ c.if-rest.end c.as_chunks.ensures.back c.as_chunks.ensures.back_len end bits)
