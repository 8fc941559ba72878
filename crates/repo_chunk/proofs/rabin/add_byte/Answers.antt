use Rattle.std.proofs.Common.{◌-◌, ◌∙◌, ap, arith}
use Rattle.std.proofs.lemmas.Nat.Bits.{shr_and_one}
use Rattle.repo_chunk.specs.Rabin.{step}
use Rattle.repo_chunk.proofs.Bits.{steps_down}
use Rattle.repo_chunk.proofs.rabin.add_byte.Goals as goal

pub loop-place-preserved : goal.loop-place-preserved
loop-place-preserved c = record {
  degree = c.add_bit-so_far.ensures.degree;
  steps = steps_down c.args.byte c.loop-place.place c.loop-place.so_far c.add_bit-so_far.result _ (omega arith)
      (c.add_bit-so_far.ensures.value ∙ ap (step c.loop-place.so_far) (shr_and_one c.args.byte (c.loop-place.place - 1)))
      c.loop-place.invariant.steps;
}
