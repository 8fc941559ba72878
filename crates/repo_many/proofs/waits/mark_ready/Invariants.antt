use Rattle.repo_many.specs.Connected.{IsStill}
use Rattle.repo_many.proofs.waits.mark_ready.Given as goal

abbrev pub invariant-loop-event : goal.invariant-loop-event
invariant-loop-event g l = IsStill l.fn.places.items l.places.items
