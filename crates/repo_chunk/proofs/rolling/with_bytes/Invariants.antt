use Rattle.std.proofs.Common.{◌≡◌, ◌^◌, ◌<◌, take}
use Rattle.std.specs.Prelude.{fold}
use Rattle.repo_chunk.specs.inner.Tables.{with_byte}
use Rattle.repo_chunk.proofs.rolling.with_bytes.Given as goal

abbrev pub invariant-loop-byte : goal.invariant-loop-byte
invariant-loop-byte l = record {
  degree : l.so_far < 2 ^ 53;
  value : l.so_far ≡ fold with_byte l.fingerprint (take l.byte-index l.bytes);
}
