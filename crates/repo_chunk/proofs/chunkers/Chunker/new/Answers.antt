use Rattle.std.proofs.Common.{◌-◌, arith}
use Rattle.repo_chunk.proofs.Cutting.{none_count}
use Rattle.repo_chunk.proofs.chunkers.Chunker.new.Goals as goal

pub invariant_of-result-clause-rolled : goal.invariant_of-result-clause-rolled
invariant_of-result-clause-rolled c = none_count _ (c.args.params.min - 0) (omega (arith, c.max.ensures.lawful.least))
