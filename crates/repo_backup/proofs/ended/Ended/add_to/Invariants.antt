-- Some first chunks were added, and the others lie in what is left.
use Rattle.repo_backup.proofs.Waits.{AddsSome}
use Rattle.repo_backup.proofs.ended.Ended.add_to.Given as goal

abbrev pub invariant-loop-place : goal.invariant-loop-place
invariant-loop-place l = AddsSome l.lookup l.self l.self-inside.lengths.items l.place l.rest l.fn.packing l.packing
