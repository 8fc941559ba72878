use Rattle.std.proofs.Common.{◌≡◌, ◌^◌, ◌<◌, drop}
use Rattle.std.specs.Prelude.{fold}
use Rattle.std.specs.List.{flat_map}
use Rattle.repo_chunk.specs.Rabin.{step, bits_of}
use Rattle.repo_chunk.proofs.rabin.remainder.Given as goal

abbrev pub invariant-loop-byte : goal.invariant-loop-byte
invariant-loop-byte l = record {
  degree : l.so_far < 2 ^ 53;
  steps : fold step l.so_far (flat_map bits_of (drop l.byte-index l.bytes)) ≡ fold step 0 (flat_map bits_of l.bytes);
}
