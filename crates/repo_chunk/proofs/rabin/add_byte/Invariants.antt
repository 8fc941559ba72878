use Rattle.std.proofs.Common.{◌≡◌, ◌^◌, ◌<◌}
use Rattle.repo_chunk.proofs.Bits.{steps_below}
use Rattle.repo_chunk.proofs.rabin.add_byte.Given as goal

abbrev pub invariant-loop-place : goal.invariant-loop-place
invariant-loop-place l = record {
  degree : l.so_far < 2 ^ 53;
  steps : steps_below l.byte l.place l.so_far ≡ steps_below l.byte 8 l.start;
}
