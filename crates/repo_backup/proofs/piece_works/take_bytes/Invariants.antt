-- The bytes so far were taken, and all can be undone.
use Rattle.std.proofs.Common.{◌-◌, length}
use Rattle.repo_backup.proofs.Biting.{TakesSome, chunk_bytes}
use Rattle.repo_backup.proofs.piece_works.take_bytes.Given as goal

abbrev pub invariant-loop-taken : goal.invariant-loop-taken
invariant-loop-taken l = TakesSome l.lookup l.piece l.taken (chunk_bytes l.first) l.ended l.fn.file l.file l.fn.packing l.packing

abbrev pub decreases-loop-taken : goal.decreases-loop-taken
decreases-loop-taken l = length l.piece - l.taken
