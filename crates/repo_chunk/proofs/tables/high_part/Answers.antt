use Rattle.std.proofs.Common.{refl, arith}
use Rattle.repo_chunk.specs.Rabin.{remainder}
use Rattle.repo_chunk.specs.inner.Tables.{with_byte, high_part}
use Rattle.repo_chunk.specs.declared.tables.TheConstants.{HIGH_PARTS}
use Rattle.repo_chunk.proofs.Entries.{entry_at}
use Rattle.repo_chunk.proofs.tables.high_part.Goals as goal

pub returns : goal.returns
unfolding high_part with_byte remainder
returns c = entry_at HIGH_PARTS high_part c.args.high (omega arith) refl
