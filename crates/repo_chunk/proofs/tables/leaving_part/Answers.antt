use Rattle.std.proofs.Common.{refl, arith}
use Rattle.repo_chunk.specs.Rabin.{remainder}
use Rattle.repo_chunk.specs.inner.Tables.{with_byte, leaving_part}
use Rattle.repo_chunk.specs.declared.tables.TheConstants.{LEAVING_PARTS}
use Rattle.repo_chunk.proofs.Entries.{entry_at}
use Rattle.repo_chunk.proofs.tables.leaving_part.Goals as goal

pub returns : goal.returns
unfolding leaving_part with_byte remainder
returns c = entry_at LEAVING_PARTS leaving_part c.args.byte (omega arith) refl
